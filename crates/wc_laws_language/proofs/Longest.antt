-- A longest path of a body, computed from its end, and that it is one. If two paths are equally long, it takes the next line.
use Rattle.wc_model.proofs.Common.{◌≡◌, ℕ, ◌+◌, ◌<◌, ◌≤◌, Bool, true, false, cond, List, [], ◌∷◌, ◌++◌, map, length, length-append, Option, Some, None, ltb, refl, sym, ap, subst, ◌∙◌, arith, ◌⊎◌, inl, inr, ⊎_elim, MatchOption, ltb-true, ltb-false, length-map}
use Rattle.std.proofs.Math.Nat.{le_of_eq}
use Rattle.wc_model.specs.Definitions.{VariableType, Elementary, Standard, Block, same_name, call_trace, Name, Way, Onward, Toward, Back, arriving_way, IsBodyPath, IsCallPath, MayAct, GoesOn, MayStep, MayPass, Joined, IsNestedPath, IsPathFrom, IsBlockPath, IsPath, IsLongest, Scope, type_of, Item, At, Argument, StandardBody, Called, GivenOut, own_lines, StaysOnward, ChoosesWorst, IsWorstFrom, IsWorstPath, AreWorstLines}
use Rattle.wc_model.specs.Language.Tree.{Assignment, inputs_of, outputs_of, Step, Load, Store, Apply, Negate, Jump, Call, Return, Lines, End, Alone, Plain, Nested, ProgramUnit}
use Rattle.wc_model.specs.declared.operator.Condition.{Condition}
use Rattle.wc_model.specs.declared.operator.Condition.TheVariants.{Always, IfTrue, IfFalse}

-- a path or none
abbrev pub Found : Type 0
Found = Option (List Item)

-- items before a path
abbrev pub prefixed : List Item → Found → Found
prefixed items None = None
prefixed items (Some path) = Some (items ++ path)

-- the first of two, unless the second is longer
abbrev pub longer : Found → Found → Found
longer None second = second
longer (Some a) None = Some a
longer (Some a) (Some b) = Some (cond (ltb (length a) (length b)) b a)

-- the items of a call, if its block has a path
abbrev pub call_items : ℕ → List Assignment → Found → Found
call_items line arguments None = None
call_items line arguments (Some body) = Some (call_trace line arguments body)

-- the longest items of a block's body
abbrev pub body_items : (Name → Found) → Option VariableType → Found
body_items block None = None
body_items block (Some (Elementary kind)) = None
body_items block (Some (Standard b)) = Some (StandardBody ∷ [])
body_items block (Some (Block name)) = elim (block name) [ None ↦ None | Some path ↦ Some (map Called path) ]

-- a path whose first items may be none
abbrev pub from_items : Found → Found → Found
from_items None rest = None
from_items (Some items) rest = prefixed items rest

-- what acts, and what goes on to the next line
abbrev pub chosen : Condition → Found → Found → Found
chosen Always acting passing = acting
chosen IfTrue acting passing = longer passing acting
chosen IfFalse acting passing = longer passing acting

-- the longest path from a step that is executed
abbrev pub best_step : (Name → Found) → Scope → ℕ → Step → (Way → Found) → Found
best_step block scope line (Load negated operand) go = prefixed (At line ∷ []) (go Onward)
best_step block scope line (Store storing target) go = prefixed (At line ∷ []) (go Onward)
best_step block scope line (Apply operator operand) go = prefixed (At line ∷ []) (go Onward)
best_step block scope line Negate go = prefixed (At line ∷ []) (go Onward)
best_step block scope line (Jump condition label) go = chosen condition (prefixed (At line ∷ []) (go (Toward label))) (prefixed (At line ∷ []) (go Onward))
best_step block scope line (Call condition instance arguments) go = chosen condition (from_items (call_items line arguments (body_items block (type_of scope instance))) (go Onward)) (prefixed (At line ∷ []) (go Onward))
best_step block scope line (Return condition) go = chosen condition (prefixed (At line ∷ []) (go Back)) (prefixed (At line ∷ []) (go Onward))

-- a line that is passed over adds nothing
abbrev pub best_pass : Way → Found → (Way → Found) → Found
best_pass Onward executed go = executed
best_pass (Toward label) executed go = prefixed [] (go (Toward label))
best_pass Back executed go = prefixed [] (go Back)

-- the items of a parenthesis
abbrev pub nested_items : ℕ → ℕ → Found → Found
nested_items line close None = None
nested_items line close (Some inside) = Some (At line ∷ inside ++ At close ∷ [])

-- the longest path through the lines left
abbrev pub best : (Name → Found) → Scope → Lines → Way → Found
best block scope End Onward = Some []
best block scope End Back = Some []
best block scope End (Toward label) = None
best block scope (Alone word rest) way = best block scope rest (arriving_way (Some word) way)
best block scope (Plain word line step rest) way = best_pass (arriving_way word way) (best_step block scope line step (best block scope rest)) (best block scope rest)
best block scope (Nested word line operator operand inside close rest) way =
    best_pass (arriving_way word way) (from_items (nested_items line close (best block scope inside Onward)) (best block scope rest Onward)) (best block scope rest)

-- the longest path of a block among these units
abbrev pub best_block : List ProgramUnit → Name → Found
best_block [] name = None
best_block (unit ∷ before) name = elim (same_name unit.name.name name) [ true ↦ best (best_block before) (record { before = before; unit = unit }) unit.body Onward | false ↦ best_block before name ]

-- the worst path of a unit
abbrev pub best_path : Scope → Found
best_path scope = best (best_block scope.before) scope scope.unit.body Onward

-- a set of paths has this longest one, or it has none
abbrev pub Greatest : (List Item → Type 0) → Found → Type 0
Greatest P found = MatchOption found ((q : List Item) → P q → ⊥) (λ p. P p × ((q : List Item) → P q → length q ≤ length p))

-- what goes on from a line has this worst path, or there is none
abbrev pub Worst : (List Item → Way → Type 0) → (Way → List Item → Type 0) → (Way → List Item → Type 0) → Found → Type 0
Worst executed any worst found = MatchOption found ((q : List Item) → Joined executed any q → ⊥) (λ p. ChoosesWorst executed any worst p)

-- the lines left have this worst path from a way on, or there is none
abbrev pub WorstFrom : (Way → List Item → Type 0) → (Way → List Item → Type 0) → Way → Found → Type 0
WorstFrom any worst way found = MatchOption found ((q : List Item) → any way q → ⊥) (λ p. worst way p × ((q : List Item) → any way q → length q ≤ length p))

-- one kind of items and one path on: the longest items, and then the worst path from there
pub one_way : (executed : List Item → Way → Type 0) (any worst : Way → List Item → Type 0) (items : List Item) (next : Way) (found : Found) →
    executed items next → ((i : List Item) (n : Way) → executed i n → (n ≡ next) × (length i ≤ length items)) → WorstFrom any worst next found → Worst executed any worst (prefixed items found)
one_way executed any worst items next None here bound none = λ q j. none j.2 (subst (λ n. any n j.2) (bound j.0 j.1 j.3).0 j.4)
one_way executed any worst items next (Some path) here bound w = record {
  items = items;
  next = next;
  others = path;
  first = here;
  rest = w.0;
  whole = refl;
  longest = λ other j.
      let l = (bound j.0 j.1 j.3).1 in
      let m = w.1 j.2 (subst (λ n. any n j.2) (bound j.0 j.1 j.3).0 j.4) in
      omega (arith, ap length j.5, length-append j.0 j.2, length-append items path, l, m);
  next_line_first = λ elsewhere other j. absurd (elsewhere (sym (bound j.0 j.1 j.3.0).0 ∙ j.3.1));
}

-- no items, and so no path
pub no_way : (executed : List Item → Way → Type 0) (any worst : Way → List Item → Type 0) → ((i : List Item) (n : Way) → executed i n → ⊥) → Worst executed any worst None
no_way executed any worst none = λ q j. none j.0 j.1 j.3

-- what goes on by one of two paths goes on by one of them
pub split_paths : {acts passes : List Item → Way → Type 0} {any : Way → List Item → Type 0} (q : List Item) → Joined (λ i n. acts i n ⊎ passes i n) any q → Joined acts any q ⊎ Joined passes any q
split_paths q j = ⊎_elim (λ h. inl (j.0, j.1, j.2, h, j.4, j.5)) (λ h. inr (j.0, j.1, j.2, h, j.4, j.5)) j.3

pub split_onward : {acts passes : List Item → Way → Type 0} {any : Way → List Item → Type 0} (q : List Item) → Joined (StaysOnward (λ i n. acts i n ⊎ passes i n)) any q → Joined (StaysOnward acts) any q ⊎ Joined passes any q
split_onward q j = ⊎_elim (λ h. inl (j.0, j.1, j.2, (h, j.3.1), j.4, j.5)) (λ h. inr (j.0, j.1, j.2, h, j.4, j.5)) j.3.0

-- the path that acts, if the other is shorter
pub by_acting : (acts passes : List Item → Way → Type 0) (any worst : Way → List Item → Type 0) (x : List Item) → ChoosesWorst acts any worst x → ((q : List Item) → Joined passes any q → length q < length x) → ChoosesWorst (λ i n. acts i n ⊎ passes i n) any worst x
by_acting acts passes any worst x c shorter = record {
  items = c.items;
  next = c.next;
  others = c.others;
  first = inl c.first;
  rest = c.rest;
  whole = c.whole;
  longest = λ q j. ⊎_elim (λ h. c.longest q h) (λ h. let l = shorter q h in omega (arith, l)) (split_paths q j);
  next_line_first = λ elsewhere q j. ⊎_elim (λ h. c.next_line_first elsewhere q h) (λ h. shorter q h) (split_onward q j);
}

-- the path to the next line, if the other is no longer
pub by_passing : (acts passes : List Item → Way → Type 0) (any worst : Way → List Item → Type 0) (y : List Item) → ((i : List Item) (n : Way) → passes i n → n ≡ Onward) → ChoosesWorst passes any worst y → ((q : List Item) → Joined acts any q → length q ≤ length y) → ChoosesWorst (λ i n. acts i n ⊎ passes i n) any worst y
by_passing acts passes any worst y stays c no_longer = record {
  items = c.items;
  next = c.next;
  others = c.others;
  first = inr c.first;
  rest = c.rest;
  whole = c.whole;
  longest = λ q j. ⊎_elim (λ h. no_longer q h) (λ h. c.longest q h) (split_paths q j);
  next_line_first = λ elsewhere q j. absurd (elsewhere (stays c.items c.next c.first));
}

-- by which of two paths is longer
pub by_length : (acts passes : List Item → Way → Type 0) (any worst : Way → List Item → Type 0) (x y : List Item) → ((i : List Item) (n : Way) → passes i n → n ≡ Onward) → ChoosesWorst acts any worst x → ChoosesWorst passes any worst y → (b : Bool) → ltb (length y) (length x) ≡ b → ChoosesWorst (λ i n. acts i n ⊎ passes i n) any worst (cond b x y)
by_length acts passes any worst x y stays a p true e = by_acting acts passes any worst x a (λ q j. let l = p.longest q j in let m = ltb-true (length y) (length x) e in omega (arith, l, m))
by_length acts passes any worst x y stays a p false e = by_passing acts passes any worst y stays p (λ q j. let l = a.longest q j in let m = ltb-false (length y) (length x) e in omega (arith, l, m))

-- of two paths, if the second stays with the next line: the longer, and the second if they are equally long
pub two_paths : (acts passes : List Item → Way → Type 0) (any worst : Way → List Item → Type 0) (acting passing : Found) →
    ((i : List Item) (n : Way) → passes i n → n ≡ Onward) → Worst acts any worst acting → Worst passes any worst passing → Worst (λ i n. acts i n ⊎ passes i n) any worst (longer passing acting)
two_paths acts passes any worst None None stays a p = λ q j. ⊎_elim (λ h. a q h) (λ h. p q h) (split_paths q j)
two_paths acts passes any worst (Some x) None stays a p = by_acting acts passes any worst x a (λ q j. absurd (p q j))
two_paths acts passes any worst None (Some y) stays a p = by_passing acts passes any worst y stays p (λ q j. absurd (a q j))
two_paths acts passes any worst (Some x) (Some y) stays a p = by_length acts passes any worst x y stays a p (ltb (length y) (length x)) refl

-- a conditional: it acts, or it goes on to the next line
abbrev pub conditional : Condition → (List Item → Way → Type 0) → (List Item → Way → Type 0) → List Item → Way → Type 0
conditional condition acts passes items next = MayAct condition (acts items next) (passes items next)

pub by_condition : (condition : Condition) (acts passes : List Item → Way → Type 0) (any worst : Way → List Item → Type 0) (acting passing : Found) →
    ((i : List Item) (n : Way) → passes i n → n ≡ Onward) → Worst acts any worst acting → Worst passes any worst passing → Worst (conditional condition acts passes) any worst (chosen condition acting passing)
by_condition Always acts passes any worst acting passing stays a p = a
by_condition IfTrue acts passes any worst acting passing stays a p = two_paths acts passes any worst acting passing stays a p
by_condition IfFalse acts passes any worst acting passing stays a p = two_paths acts passes any worst acting passing stays a p

-- exactly these items and this path
pub exactly : (any worst : Way → List Item → Type 0) (items : List Item) (next : Way) (found : Found) → WorstFrom any worst next found → Worst (GoesOn items next) any worst (prefixed items found)
exactly any worst items next found w = one_way (GoesOn items next) any worst items next found (refl, refl) (λ i n e. (e.1, le_of_eq (ap length e.0))) w

-- items of which the longest is known, and then the next line
pub any_of : (P : List Item → Type 0) (any worst : Way → List Item → Type 0) (found rest : Found) → Greatest P found → WorstFrom any worst Onward rest → Worst (λ i n. P i × (n ≡ Onward)) any worst (from_items found rest)
any_of P any worst None rest none w = no_way (λ i n. P i × (n ≡ Onward)) any worst (λ i n e. none i e.0)
any_of P any worst (Some items) rest best w = one_way (λ i n. P i × (n ≡ Onward)) any worst items Onward rest (best.0, refl) (λ i n e. (e.1, best.1 i e.0)) w

-- the longest items of a block's body
pub greatest_body : (block_path : Name → List Item → Type 0) (block : Name → Found) → ((name : Name) → Greatest (block_path name) (block name)) → (type : Option VariableType) → Greatest (IsBodyPath block_path type) (body_items block type)
greatest_body block_path block known None = λ q h. h
greatest_body block_path block known (Some (Elementary kind)) = λ q h. h
greatest_body block_path block known (Some (Standard b)) = (refl, λ q e. le_of_eq (ap length e))
greatest_body block_path block known (Some (Block name)) = go (block name) (known name)
  where
    go : (found : Found) → Greatest (block_path name) found → Greatest (IsBodyPath block_path (Some (Block name))) (elim found [ None ↦ None | Some path ↦ Some (map Called path) ])
    go None none = λ q h. none h.0 h.1
    go (Some path) best = ((path, best.0, refl), λ q h. let l = best.1 h.0 h.1 in omega (arith, l, ap length h.2, length-map h.0 Called, length-map path Called))

-- a call that is made executes one for its line, for each input and output, and for each item of the body
pub trace_length : (line : ℕ) (arguments : List Assignment) (body : List Item) → length (call_trace line arguments body) ≡ 1 + length (inputs_of arguments) + length body + length (outputs_of arguments)
trace_length line arguments body =
    let inputs : List Item = map (λ (input : Assignment). Argument) (inputs_of arguments) in
    let outputs : List Item = map (λ (output : Assignment). GivenOut) (outputs_of arguments) in
    omega (arith, length-append (At line ∷ inputs ++ body) outputs, length-append (At line ∷ inputs) body, length-map (inputs_of arguments) (λ (input : Assignment). Argument), length-map (outputs_of arguments) (λ (output : Assignment). GivenOut))

-- the longest items of a call
pub greatest_call : (block_path : Name → List Item → Type 0) (scope : Scope) (line : ℕ) (instance : Name) (arguments : List Assignment) (body : Found) → Greatest (IsBodyPath block_path (type_of scope instance)) body → Greatest (IsCallPath block_path scope line instance arguments) (call_items line arguments body)
greatest_call block_path scope line instance arguments None none = λ q h. none h.0 h.1
greatest_call block_path scope line instance arguments (Some body) best = (
  (body, best.0, refl),
  λ q h.
      let l = best.1 h.0 h.1 in
      omega (arith, l, ap length h.2, trace_length line arguments h.0, trace_length line arguments body),
)

-- a step that is executed
pub worst_step : (block_path : Name → List Item → Type 0) (block : Name → Found) → ((name : Name) → Greatest (block_path name) (block name)) → (scope : Scope) (line : ℕ) (step : Step) (any worst : Way → List Item → Type 0) (go : Way → Found) → ((way : Way) → WorstFrom any worst way (go way)) → Worst (MayStep block_path scope line step) any worst (best_step block scope line step go)
worst_step block_path block known scope line (Load negated operand) any worst go rest = exactly any worst (At line ∷ []) Onward (go Onward) (rest Onward)
worst_step block_path block known scope line (Store storing target) any worst go rest = exactly any worst (At line ∷ []) Onward (go Onward) (rest Onward)
worst_step block_path block known scope line (Apply operator operand) any worst go rest = exactly any worst (At line ∷ []) Onward (go Onward) (rest Onward)
worst_step block_path block known scope line Negate any worst go rest = exactly any worst (At line ∷ []) Onward (go Onward) (rest Onward)
worst_step block_path block known scope line (Jump condition label) any worst go rest =
    by_condition condition (GoesOn (At line ∷ []) (Toward label)) (GoesOn (At line ∷ []) Onward) any worst (prefixed (At line ∷ []) (go (Toward label))) (prefixed (At line ∷ []) (go Onward)) (λ i n e. e.1)
    (exactly any worst (At line ∷ []) (Toward label) (go (Toward label)) (rest (Toward label)))
    (exactly any worst (At line ∷ []) Onward (go Onward) (rest Onward))
worst_step block_path block known scope line (Call condition instance arguments) any worst go rest =
    by_condition condition (λ i n. IsCallPath block_path scope line instance arguments i × (n ≡ Onward)) (GoesOn (At line ∷ []) Onward) any worst
    (from_items (call_items line arguments (body_items block (type_of scope instance))) (go Onward)) (prefixed (At line ∷ []) (go Onward)) (λ i n e. e.1)
    (any_of (IsCallPath block_path scope line instance arguments) any worst (call_items line arguments (body_items block (type_of scope instance))) (go Onward)
    (greatest_call block_path scope line instance arguments (body_items block (type_of scope instance)) (greatest_body block_path block known (type_of scope instance))) (rest Onward))
    (exactly any worst (At line ∷ []) Onward (go Onward) (rest Onward))
worst_step block_path block known scope line (Return condition) any worst go rest =
    by_condition condition (GoesOn (At line ∷ []) Back) (GoesOn (At line ∷ []) Onward) any worst (prefixed (At line ∷ []) (go Back)) (prefixed (At line ∷ []) (go Onward)) (λ i n e. e.1)
    (exactly any worst (At line ∷ []) Back (go Back) (rest Back))
    (exactly any worst (At line ∷ []) Onward (go Onward) (rest Onward))

-- a line that is executed or passed over
pub worst_pass : (executed : List Item → Way → Type 0) (any worst : Way → List Item → Type 0) (found : Found) (go : Way → Found) → Worst executed any worst found → ((way : Way) → WorstFrom any worst way (go way)) → (way : Way) → Worst (MayPass executed way) any worst (best_pass way found go)
worst_pass executed any worst found go here rest Onward = here
worst_pass executed any worst found go here rest (Toward label) = exactly any worst [] (Toward label) (go (Toward label)) (rest (Toward label))
worst_pass executed any worst found go here rest Back = exactly any worst [] Back (go Back) (rest Back)

-- the longest items of a parenthesis, and then the next line
pub worst_nested : (line close : ℕ) (inside : List Item → Type 0) (any worst : Way → List Item → Type 0) (found rest : Found) → Greatest inside found → WorstFrom any worst Onward rest → Worst (IsNestedPath line close inside) any worst (from_items (nested_items line close found) rest)
worst_nested line close inside any worst None rest none w = no_way (IsNestedPath line close inside) any worst (λ i n e. none e.0 e.1)
worst_nested line close inside any worst (Some path) rest best w =
    one_way (IsNestedPath line close inside) any worst (At line ∷ path ++ At close ∷ []) Onward rest (path, best.0, refl, refl)
    (λ i n e. (e.3, let l = best.1 e.0 e.1 in omega (arith, l, ap length e.2, length-append (At line ∷ e.0) (At close ∷ []), length-append (At line ∷ path) (At close ∷ [])))) w

-- a worst path is a path
pub worst_is_path : (block_path : Name → List Item → Type 0) (scope : Scope) (lines : Lines) (way : Way) (path : List Item) → IsWorstFrom block_path scope lines way path → IsPathFrom block_path scope lines way path
worst_is_path block_path scope End way path w = w
worst_is_path block_path scope (Alone word rest) way path w = worst_is_path block_path scope rest (arriving_way (Some word) way) path w
worst_is_path block_path scope (Plain word line step rest) way path w = (w.items, w.next, w.others, w.first, worst_is_path block_path scope rest w.next w.others w.rest, w.whole)
worst_is_path block_path scope (Nested word line operator operand inside close rest) way path w = (w.items, w.next, w.others, w.first, worst_is_path block_path scope rest w.next w.others w.rest, w.whole)

-- a worst path on is a worst path from there
pub as_worst : (executed : List Item → Way → Type 0) (any worst : Way → List Item → Type 0) (found : Found) (P W : List Item → Type 0) → ((q : List Item) → P q → Joined executed any q) → ((q : List Item) → ChoosesWorst executed any worst q → W q) → Worst executed any worst found → MatchOption found ((q : List Item) → P q → ⊥) (λ p. W p × ((q : List Item) → P q → length q ≤ length p))
as_worst executed any worst None P W to from w = λ q h. w q (to q h)
as_worst executed any worst (Some path) P W to from w = (from path w, λ q h. w.longest q (to q h))

-- the longest path among those that are worst is a longest
pub as_greatest : (P W : List Item → Type 0) (found : Found) → ((q : List Item) → W q → P q) → MatchOption found ((q : List Item) → P q → ⊥) (λ p. W p × ((q : List Item) → P q → length q ≤ length p)) → Greatest P found
as_greatest P W None weaken w = w
as_greatest P W (Some path) weaken w = (weaken path w.0, w.1)

-- what `best` finds through the lines left is the worst path, and if it finds none, there is none
pub best_is_worst : (block_path : Name → List Item → Type 0) (block : Name → Found) → ((name : Name) → Greatest (block_path name) (block name)) → (scope : Scope) (lines : Lines) (way : Way) → WorstFrom (IsPathFrom block_path scope lines) (IsWorstFrom block_path scope lines) way (best block scope lines way)
best_is_worst block_path block known scope End Onward = (refl, λ q e. le_of_eq (ap length e))
best_is_worst block_path block known scope End Back = (refl, λ q e. le_of_eq (ap length e))
best_is_worst block_path block known scope End (Toward label) = λ q h. h
best_is_worst block_path block known scope (Alone word rest) way = best_is_worst block_path block known scope rest (arriving_way (Some word) way)
best_is_worst block_path block known scope (Plain word line step rest) way =
    as_worst (MayPass (MayStep block_path scope line step) (arriving_way word way)) (IsPathFrom block_path scope rest) (IsWorstFrom block_path scope rest) (best block scope (Plain word line step rest) way)
    (IsPathFrom block_path scope (Plain word line step rest) way) (IsWorstFrom block_path scope (Plain word line step rest) way) (λ q h. h) (λ q h. h)
    (worst_pass (MayStep block_path scope line step) (IsPathFrom block_path scope rest) (IsWorstFrom block_path scope rest) (best_step block scope line step (best block scope rest)) (best block scope rest)
    (worst_step block_path block known scope line step (IsPathFrom block_path scope rest) (IsWorstFrom block_path scope rest) (best block scope rest) (best_is_worst block_path block known scope rest))
    (best_is_worst block_path block known scope rest) (arriving_way word way))
best_is_worst block_path block known scope (Nested word line operator operand inside close rest) way =
    as_worst (MayPass (IsNestedPath line close (IsPathFrom block_path scope inside Onward)) (arriving_way word way)) (IsPathFrom block_path scope rest) (IsWorstFrom block_path scope rest) (best block scope (Nested word line operator operand inside close rest) way)
    (IsPathFrom block_path scope (Nested word line operator operand inside close rest) way) (IsWorstFrom block_path scope (Nested word line operator operand inside close rest) way) (λ q h. h) (λ q h. h)
    (worst_pass (IsNestedPath line close (IsPathFrom block_path scope inside Onward)) (IsPathFrom block_path scope rest) (IsWorstFrom block_path scope rest) (from_items (nested_items line close (best block scope inside Onward)) (best block scope rest Onward)) (best block scope rest)
    (worst_nested line close (IsPathFrom block_path scope inside Onward) (IsPathFrom block_path scope rest) (IsWorstFrom block_path scope rest) (best block scope inside Onward) (best block scope rest Onward)
    (as_greatest (IsPathFrom block_path scope inside Onward) (IsWorstFrom block_path scope inside Onward) (best block scope inside Onward) (worst_is_path block_path scope inside Onward) (best_is_worst block_path block known scope inside Onward))
    (best_is_worst block_path block known scope rest Onward))
    (best_is_worst block_path block known scope rest) (arriving_way word way))

-- the longest path of a block among these units is found
pub best_block_is_greatest : (before : List ProgramUnit) (name : Name) → Greatest (IsBlockPath before name) (best_block before name)
best_block_is_greatest [] name = λ q h. h
best_block_is_greatest (unit ∷ before) name =
    elim (same_name unit.name.name name) as (λ b. Greatest (λ path. elim b as (λ x. Type 0) [ true ↦ IsPathFrom (IsBlockPath before) (record { before = before; unit = unit }) unit.body Onward path | false ↦ IsBlockPath before name path ]) (elim b [ true ↦ best (best_block before) (record { before = before; unit = unit }) unit.body Onward | false ↦ best_block before name ])) [
      | true ↦ as_greatest (IsPathFrom (IsBlockPath before) (record { before = before; unit = unit }) unit.body Onward) (IsWorstFrom (IsBlockPath before) (record { before = before; unit = unit }) unit.body Onward)
          (best (best_block before) (record { before = before; unit = unit }) unit.body Onward) (worst_is_path (IsBlockPath before) (record { before = before; unit = unit }) unit.body Onward)
          (best_is_worst (IsBlockPath before) (best_block before) (best_block_is_greatest before) (record { before = before; unit = unit }) unit.body Onward)
      | false ↦ best_block_is_greatest before name
    ]

-- what `best_path` finds is the worst path of the unit, and if it finds none, the unit has no path
pub best_path_is_worst : (scope : Scope) → WorstFrom (λ way. IsPath scope) (λ way. IsWorstPath scope) Onward (best_path scope)
best_path_is_worst scope = best_is_worst (IsBlockPath scope.before) (best_block scope.before) (best_block_is_greatest scope.before) scope scope.unit.body Onward

-- no path is longer than a worst one
pub worst_is_longest : (block_path : Name → List Item → Type 0) (scope : Scope) (lines : Lines) (way : Way) (path : List Item) → IsWorstFrom block_path scope lines way path → (q : List Item) → IsPathFrom block_path scope lines way q → length q ≤ length path
worst_is_longest block_path scope End Onward path w q h = le_of_eq (ap length (h ∙ sym w))
worst_is_longest block_path scope End Back path w q h = le_of_eq (ap length (h ∙ sym w))
worst_is_longest block_path scope End (Toward label) path w q h = absurd h
worst_is_longest block_path scope (Alone word rest) way path w q h = worst_is_longest block_path scope rest (arriving_way (Some word) way) path w q h
worst_is_longest block_path scope (Plain word line step rest) way path w q h = w.longest q h
worst_is_longest block_path scope (Nested word line operator operand inside close rest) way path w q h = w.longest q h

-- a worst path is a longest
pub longest_of_worst : (scope : Scope) (path : List Item) → IsWorstPath scope path → IsLongest scope (length path)
longest_of_worst scope path w = record {
  path = path;
  is_path = worst_is_path (IsBlockPath scope.before) scope scope.unit.body Onward path w;
  reached = refl;
  greatest = worst_is_longest (IsBlockPath scope.before) scope scope.unit.body Onward path w;
}

-- what is computed is a worst path
pub computed_is_worst : (scope : Scope) (path : List Item) → best_path scope ≡ Some path → IsWorstPath scope path
computed_is_worst scope path e = (subst (λ (found : Found). WorstFrom (λ way. IsPath scope) (λ way. IsWorstPath scope) Onward found) e (best_path_is_worst scope)).0

-- so are its lines
pub computed_lines : (scope : Scope) (path : List Item) → best_path scope ≡ Some path → AreWorstLines scope (own_lines path)
computed_lines scope path e = (path, computed_is_worst scope path e, refl)
