-- The lines of a unit's worst path are one list: of two worst paths neither leaves the next line alone, a call counts one line
-- of its caller's, and inside parentheses nothing is conditional.
use Rattle.std.proofs.Common.{◌≡◌, ◌≢◌, ℕ, true, List, [], ◌∷◌, ◌++◌, Option, Some, None, ◌⊎◌, inl, inr, sym, ap, subst, ◌∙◌, arith}
use Rattle.wc_laws_language.proofs.Longest.{worst_is_path}
use Rattle.wc_laws_language.specs.SoundnessLaws.{is_simple, IsSimple, NestsSimply}
use Rattle.wc_model.specs.Definitions.{VariableType, Elementary, Standard, Block, Name, Way, Onward, Toward, Back, arriving_way, GoesOn, IsBlockPath, IsBodyPath, IsCallPath, IsNestedPath, IsPathFrom, Joined, MayAct, MayPass, MayStep, Scope, type_of, Item, At, own_lines, AreWorstLines, ChoosesWorst, IsWorstFrom}
use Rattle.wc_model.specs.Language.Tree.{Assignment, Step, Load, Store, Apply, Negate, Jump, Call, Return, Lines, End, Alone, Plain, Nested}
use Rattle.wc_model.specs.declared.operator.Condition.{Condition}
use Rattle.wc_model.specs.declared.operator.Condition.TheVariants.{Always, IfTrue, IfFalse}
use Rattle.wc_text_flat.proofs.FlatPaths.{no_own_lines, own_line_of_call, own_lines-append}

-- two paths after the same items
joined_after : (first other rest more p q : List Item) → first ≡ other → rest ≡ more → p ≡ first ++ rest → q ≡ other ++ more → p ≡ q
joined_after first other rest more p q same on is also = is ∙ (λ i. same i ++ on i) ∙ sym also

-- what follows one path alone is one path
one_after : (wanted : List Item) (any : Way → List Item → Type 0) → ((x y : List Item) → any Onward x → any Onward y → x ≡ y) → (p q : List Item) →
    Joined (GoesOn wanted Onward) any p → Joined (GoesOn wanted Onward) any q → p ≡ q
one_after wanted any one p q a b =
    let on = one a.2 b.2 (subst (λ (way : Way). any way a.2) a.3.1 a.4) (subst (λ (way : Way). any way b.2) b.3.1 b.4) in
    joined_after a.0 b.0 a.2 b.2 p q (a.3.0 ∙ sym b.3.0) on a.5 b.5

-- so it is after a simple step
one_after_step : (block_path : Name → List Item → Type 0) (scope : Scope) (line : ℕ) (step : Step) → is_simple step ≡ true → (any : Way → List Item → Type 0) →
    ((x y : List Item) → any Onward x → any Onward y → x ≡ y) → (p q : List Item) →
    Joined (MayStep block_path scope line step) any p → Joined (MayStep block_path scope line step) any q → p ≡ q
one_after_step block_path scope line (Load negated operand) simple any one p q a b = one_after (At line ∷ []) any one p q a b
one_after_step block_path scope line (Store storing target) simple any one p q a b = one_after (At line ∷ []) any one p q a b
one_after_step block_path scope line (Apply operator operand) simple any one p q a b = one_after (At line ∷ []) any one p q a b
one_after_step block_path scope line Negate simple any one p q a b = one_after (At line ∷ []) any one p q a b
one_after_step block_path scope line (Jump condition label) simple any one p q a b = absurd (let e = simple in cc)
one_after_step block_path scope line (Call condition instance arguments) simple any one p q a b = absurd (let e = simple in cc)
one_after_step block_path scope line (Return condition) simple any one p q a b = absurd (let e = simple in cc)

-- there is one path through simple lines
one_simple : (block_path : Name → List Item → Type 0) (scope : Scope) (inside : Lines) → IsSimple inside → (p q : List Item) →
    IsPathFrom block_path scope inside Onward p → IsPathFrom block_path scope inside Onward q → p ≡ q
one_simple block_path scope End simple p q a b = a ∙ sym b
one_simple block_path scope (Alone word rest) simple p q a b = one_simple block_path scope rest simple p q a b
one_simple block_path scope (Plain word line step rest) simple p q a b =
    one_after_step block_path scope line step simple.0 (IsPathFrom block_path scope rest) (one_simple block_path scope rest simple.1) p q a b
one_simple block_path scope (Nested word line operator operand inside close rest) simple p q a b =
    let within = one_simple block_path scope inside simple.0 a.3.0 b.3.0 a.3.1 b.3.1 in
    let on = one_simple block_path scope rest simple.1 a.2 b.2 (subst (λ (way : Way). IsPathFrom block_path scope rest way a.2) a.3.3 a.4) (subst (λ (way : Way). IsPathFrom block_path scope rest way b.2) b.3.3 b.4) in
    joined_after a.0 b.0 a.2 b.2 p q (a.3.2 ∙ (λ i. At line ∷ within i ++ At close ∷ []) ∙ sym b.3.2) on a.5 b.5

-- items that list the same lines, and lead to the same place or one of them to the next line alone
abbrev Alike : List Item → List Item → Way → Way → Type 0
Alike i j m n = (own_lines i ≡ own_lines j) × ((m ≡ n) ⊎ ((m ≡ Onward) × (n ≢ Onward)) ⊎ ((n ≡ Onward) × (m ≢ Onward)))

-- any two of some items do
abbrev AreAlike : (List Item → Way → Type 0) → Type 0
AreAlike executed = (i j : List Item) (m n : Way) → executed i m → executed j n → Alike i j m n

turned : (i j : List Item) (m n : Way) → Alike i j m n → Alike j i n m
turned i j m n (same, inl is) = (sym same, inl (sym is))
turned i j m n (same, inr (inl stays)) = (sym same, inr (inr stays))
turned i j m n (same, inr (inr stays)) = (sym same, inr (inl stays))

exactly_alike : (wanted : List Item) (way : Way) → AreAlike (GoesOn wanted way)
exactly_alike wanted way i j m n a b = (ap own_lines (a.0 ∙ sym b.0), inl (a.1 ∙ sym b.1))

-- what acts, or goes on to the next line
either_alike : (acts passes : List Item → Way → Type 0) → AreAlike acts → AreAlike passes → ((i j : List Item) (m n : Way) → acts i m → passes j n → Alike i j m n) →
    AreAlike (λ i n. acts i n ⊎ passes i n)
either_alike acts passes acting passing both i j m n (inl a) (inl b) = acting i j m n a b
either_alike acts passes acting passing both i j m n (inl a) (inr b) = both i j m n a b
either_alike acts passes acting passing both i j m n (inr a) (inl b) = turned j i n m (both j i n m b a)
either_alike acts passes acting passing both i j m n (inr a) (inr b) = passing i j m n a b

condition_alike : (condition : Condition) (acts passes : List Item → Way → Type 0) → AreAlike acts → AreAlike passes → ((i j : List Item) (m n : Way) → acts i m → passes j n → Alike i j m n) →
    AreAlike (λ i n. MayAct condition (acts i n) (passes i n))
condition_alike Always acts passes acting passing both = acting
condition_alike IfTrue acts passes acting passing both = either_alike acts passes acting passing both
condition_alike IfFalse acts passes acting passing both = either_alike acts passes acting passing both

-- a line that leads elsewhere than to the next
leaves_alike : (line : ℕ) (way : Way) → way ≢ Onward → (i j : List Item) (m n : Way) → GoesOn (At line ∷ []) way i m → GoesOn (At line ∷ []) Onward j n → Alike i j m n
leaves_alike line way elsewhere i j m n a b = (ap own_lines (a.0 ∙ sym b.0), inr (inr (b.1, λ e. elsewhere (sym a.1 ∙ e))))

elsewhere_toward : (label : Name) → Toward label ≢ Onward
elsewhere_toward label e = cc

elsewhere_back : Back ≢ Onward
elsewhere_back e = cc

-- no line of the body of what is called is the caller's
none_of_body : (block_path : Name → List Item → Type 0) (type : Option VariableType) (items : List Item) → IsBodyPath block_path type items → own_lines items ≡ []
none_of_body block_path None items b = absurd b
none_of_body block_path (Some (Elementary kind)) items b = absurd b
none_of_body block_path (Some (Standard block)) items b = ap own_lines b
none_of_body block_path (Some (Block name)) items b = ap own_lines b.2 ∙ no_own_lines b.0

-- a call lists its own line alone
call_lists : (block_path : Name → List Item → Type 0) (scope : Scope) (line : ℕ) (instance : Name) (arguments : List Assignment) (items : List Item) →
    IsCallPath block_path scope line instance arguments items → own_lines items ≡ line ∷ []
call_lists block_path scope line instance arguments items c =
    ap own_lines c.2 ∙ own_line_of_call line arguments c.0 (none_of_body block_path (type_of scope instance) c.0 c.1)

call_alike : (block_path : Name → List Item → Type 0) (scope : Scope) (line : ℕ) (condition : Condition) (instance : Name) (arguments : List Assignment) →
    AreAlike (MayStep block_path scope line (Call condition instance arguments))
call_alike block_path scope line condition instance arguments =
    let listed = call_lists block_path scope line instance arguments in
    condition_alike condition (λ i n. IsCallPath block_path scope line instance arguments i × (n ≡ Onward)) (GoesOn (At line ∷ []) Onward)
    (λ i j m n a b. (listed i a.0 ∙ sym (listed j b.0), inl (a.1 ∙ sym b.1))) (exactly_alike (At line ∷ []) Onward)
    (λ i j m n a b. (listed i a.0 ∙ sym (ap own_lines b.0), inl (a.1 ∙ sym b.1)))

-- any two passages through a step are alike
step_alike : (block_path : Name → List Item → Type 0) (scope : Scope) (line : ℕ) (step : Step) → AreAlike (MayStep block_path scope line step)
step_alike block_path scope line (Load negated operand) = exactly_alike (At line ∷ []) Onward
step_alike block_path scope line (Store storing target) = exactly_alike (At line ∷ []) Onward
step_alike block_path scope line (Apply operator operand) = exactly_alike (At line ∷ []) Onward
step_alike block_path scope line Negate = exactly_alike (At line ∷ []) Onward
step_alike block_path scope line (Jump condition label) =
    condition_alike condition (GoesOn (At line ∷ []) (Toward label)) (GoesOn (At line ∷ []) Onward)
    (exactly_alike (At line ∷ []) (Toward label)) (exactly_alike (At line ∷ []) Onward) (leaves_alike line (Toward label) (elsewhere_toward label))
step_alike block_path scope line (Call condition instance arguments) = call_alike block_path scope line condition instance arguments
step_alike block_path scope line (Return condition) =
    condition_alike condition (GoesOn (At line ∷ []) Back) (GoesOn (At line ∷ []) Onward)
    (exactly_alike (At line ∷ []) Back) (exactly_alike (At line ∷ []) Onward) (leaves_alike line Back elsewhere_back)

-- and any two through a parenthesis, of which each line is simple
nested_alike : (block_path : Name → List Item → Type 0) (scope : Scope) (line close : ℕ) (inside : Lines) → IsSimple inside →
    AreAlike (IsNestedPath line close (IsPathFrom block_path scope inside Onward))
nested_alike block_path scope line close inside simple i j m n a b =
    let within = one_simple block_path scope inside simple a.0 b.0 a.1 b.1 in
    (ap own_lines (a.2 ∙ (λ k. At line ∷ within k ++ At close ∷ []) ∙ sym b.2), inl (a.3 ∙ sym b.3))

-- a line that is passed over adds nothing
pass_alike : (executed : List Item → Way → Type 0) (way : Way) → AreAlike executed → AreAlike (MayPass executed way)
pass_alike executed Onward alike = alike
pass_alike executed (Toward label) alike = exactly_alike [] (Toward label)
pass_alike executed Back alike = exactly_alike [] Back

-- what a worst path lists, by its parts
lists_parts : (executed : List Item → Way → Type 0) (any worst : Way → List Item → Type 0) (p : List Item) (c : ChoosesWorst executed any worst p) → own_lines p ≡ own_lines c.items ++ own_lines c.others
lists_parts executed any worst p c = ap own_lines c.whole ∙ own_lines-append c.items c.others

-- a worst path that leaves the next line is longer than one that takes it, and no longest path is
never_apart : (executed : List Item → Way → Type 0) (any worst : Way → List Item → Type 0) → ((way : Way) (x : List Item) → worst way x → any way x) → (p q : List Item) →
    (c : ChoosesWorst executed any worst p) → c.next ≢ Onward → (d : ChoosesWorst executed any worst q) → d.next ≡ Onward → ⊥
never_apart executed any worst weaken p q c elsewhere d stays =
    let shorter = c.next_line_first elsewhere q (d.items, d.next, d.others, (d.first, stays), weaken d.next d.others d.rest, d.whole) in
    let longest = d.longest p (c.items, c.next, c.others, c.first, weaken c.next c.others c.rest, c.whole) in
    omega (arith, shorter, longest)

-- worst paths of a line list the same if those of the lines after it do
same_choice : (executed : List Item → Way → Type 0) (any worst : Way → List Item → Type 0) → AreAlike executed → ((way : Way) (x : List Item) → worst way x → any way x) →
    ((way : Way) (x y : List Item) → worst way x → worst way y → own_lines x ≡ own_lines y) → (p q : List Item) →
    ChoosesWorst executed any worst p → ChoosesWorst executed any worst q → own_lines p ≡ own_lines q
same_choice executed any worst alike weaken one p q c d =
    let both = alike c.items d.items c.next d.next c.first d.first in
    let listed : own_lines c.others ≡ own_lines d.others = elim both.1 [
      | inl same ↦ one d.next c.others d.others (subst (λ (way : Way). worst way c.others) same c.rest) d.rest
      | inr (inl apart) ↦ absurd (never_apart executed any worst weaken q p d apart.1 c apart.0)
      | inr (inr apart) ↦ absurd (never_apart executed any worst weaken p q c apart.1 d apart.0)
    ] in
    lists_parts executed any worst p c ∙ (λ i. both.0 i ++ listed i) ∙ sym (lists_parts executed any worst q d)

-- worst paths through lines list the same
pub same_lines : (block_path : Name → List Item → Type 0) (scope : Scope) (lines : Lines) → NestsSimply lines → (way : Way) (p q : List Item) →
    IsWorstFrom block_path scope lines way p → IsWorstFrom block_path scope lines way q → own_lines p ≡ own_lines q
same_lines block_path scope End nests Onward p q a b = ap own_lines (a ∙ sym b)
same_lines block_path scope End nests Back p q a b = ap own_lines (a ∙ sym b)
same_lines block_path scope End nests (Toward label) p q a b = absurd a
same_lines block_path scope (Alone word rest) nests way p q a b = same_lines block_path scope rest nests (arriving_way (Some word) way) p q a b
same_lines block_path scope (Plain word line step rest) nests way p q a b =
    same_choice (MayPass (MayStep block_path scope line step) (arriving_way word way)) (IsPathFrom block_path scope rest) (IsWorstFrom block_path scope rest)
    (pass_alike (MayStep block_path scope line step) (arriving_way word way) (step_alike block_path scope line step))
    (worst_is_path block_path scope rest) (same_lines block_path scope rest nests) p q a b
same_lines block_path scope (Nested word line operator operand inside close rest) nests way p q a b =
    let nested = IsNestedPath line close (IsPathFrom block_path scope inside Onward) in
    same_choice (MayPass nested (arriving_way word way)) (IsPathFrom block_path scope rest) (IsWorstFrom block_path scope rest)
    (pass_alike nested (arriving_way word way) (nested_alike block_path scope line close inside nests.0))
    (worst_is_path block_path scope rest) (same_lines block_path scope rest nests.1) p q a b

-- so the lines of a unit's worst path are one list
pub one_list : (scope : Scope) → NestsSimply scope.unit.body → (lines other : List ℕ) → AreWorstLines scope lines → AreWorstLines scope other → lines ≡ other
one_list scope nests lines other a b = a.2 ∙ same_lines (IsBlockPath scope.before) scope scope.unit.body nests Onward a.0 b.0 a.1 b.1 ∙ sym b.2
