-- The worst paths through flat code, computed from the last line to the first.
use Rattle.wc_model.proofs.Common.{◌≡◌, ℕ, zero, suc, ◌+◌, ◌*◌, ◌<◌, ◌≤◌, Bool, true, false, List, [], ◌∷◌, ◌++◌, length, drop, get_or, set, append_assoc, refl, sym, ap, subst, ◌∙◌, arith, if◌then◌else◌, nat_lt, slice_index, drop-set, get_or-drop, length-map, length-drop}
use Rattle.wc_text_flat.specs.FlatPaths.{Worst, from_line, line_worst, no_more, one_more, preceded, turned, worse, worst_from, worst_of}
use Rattle.wc_model.specs.Language.Faults.{MOST_STEPS}
use Rattle.wc_model.specs.declared.code.Code.{Code}
use Rattle.wc_model.specs.declared.code.Code.TheVariants.{Not, Jump, Return, Call, ArgumentNumber, Body}
use Rattle.wc_model.specs.declared.operator.Condition.{Condition}
use Rattle.wc_model.specs.declared.operator.Condition.TheVariants.{Always, IfTrue, IfFalse}
use Rattle.wc_names.proofs.Lists.{from_index, from_index_or}
use Rattle.wc_cost.specs.PathLengths.{AreAfter, AreSmall, ArePathLengths, and_then, own_source, own_steps, steps_of}

-- the length of the path from one of the lines after
steps_at : (rest : List Worst) (k : ℕ) → (from_line rest k).steps ≡ slice_index (steps_of rest) k
steps_at [] k = refl
steps_at (way ∷ rest) zero = refl
steps_at (way ∷ rest) (suc k) = steps_at rest k

pub way_after : (path_lengths : List ℕ) (next : ℕ) (rest : List Worst) → AreAfter path_lengths next rest → (k : ℕ) → (from_line rest k).steps ≡ slice_index path_lengths (next + k)
way_after path_lengths next rest are k = steps_at rest k ∙ ap (λ xs. slice_index xs k) (sym are) ∙ get_or-drop next path_lengths k 0

-- after the last line there is nothing
pub past : (rest : List Worst) (k : ℕ) → length rest ≤ k → from_line rest k ≡ no_more
past [] k l = refl
past (way ∷ rest) zero l = absurd (omega (arith, l))
past (way ∷ rest) (suc k) l = past rest k (omega (arith, l))

pub chosen : (b : Bool) (w a p : Worst) → w ≡ (if b then a else p) → b ≡ true → w ≡ a
chosen b w a p e is = e ∙ ap (λ x. if x then a else p) is

pub other : (b : Bool) (w a p : Worst) → w ≡ (if b then a else p) → b ≡ false → w ≡ p
other b w a p e is = e ∙ ap (λ x. if x then a else p) is

-- a line's own steps, and then a path
pub then_steps : (bounds : List ℕ) (source : ℕ) (line : Code) (way : Worst) → (and_then bounds source line way).steps ≡ own_steps bounds line + way.steps
then_steps bounds source (Body unit at) way = refl
then_steps bounds source line way = refl

-- a conditional line, and any other
pub jump_way : (bounds : List ℕ) (source : ℕ) (rest : List Worst) (line : Code) (condition : Condition) (skip k : ℕ) → line ≡ Jump condition skip → turned condition (from_line rest skip) (from_line rest 0) ≡ from_line rest k → line_worst bounds source rest line ≡ and_then bounds source line (from_line rest k)
jump_way bounds source rest line condition skip k e h = subst (λ x. line_worst bounds source rest x ≡ and_then bounds source x (from_line rest k)) (sym e) (ap (one_more source) h)

pub call_way : (bounds : List ℕ) (source : ℕ) (rest : List Worst) (line : Code) (condition : Condition) (skip k : ℕ) → line ≡ Call condition skip → turned condition (from_line rest 0) (from_line rest skip) ≡ from_line rest k → line_worst bounds source rest line ≡ and_then bounds source line (from_line rest k)
call_way bounds source rest line condition skip k e h = subst (λ x. line_worst bounds source rest x ≡ and_then bounds source x (from_line rest k)) (sym e) (ap (one_more source) h)

pub return_way : (bounds : List ℕ) (source : ℕ) (path_lengths : List ℕ) (next : ℕ) (rest : List Worst) → AreAfter path_lengths next rest → (line : Code) (condition : Condition) (k : ℕ) → line ≡ Return condition → turned condition (from_line rest (length path_lengths)) (from_line rest 0) ≡ from_line rest k → line_worst bounds source rest line ≡ and_then bounds source line (from_line rest k)
return_way bounds source path_lengths next rest are line condition k e h =
    let a : length (drop next path_lengths) ≡ length rest = ap length are ∙ length-map rest (λ (way : Worst). way.steps) in
    let b = length-drop next path_lengths in
    subst (λ x. line_worst bounds source rest x ≡ and_then bounds source x (from_line rest k)) (sym e) (ap (one_more source) (ap (λ w. turned condition w (from_line rest 0)) (sym (past rest (length path_lengths) (omega (arith, a, b)))) ∙ h))

pub other_way : (bounds : List ℕ) (source : ℕ) (rest : List Worst) (line : Code) → ((condition : Condition) (skip : ℕ) → line ≡ Jump condition skip → ⊥) → ((condition : Condition) → line ≡ Return condition → ⊥) → ((condition : Condition) (skip : ℕ) → line ≡ Call condition skip → ⊥) → line_worst bounds source rest line ≡ and_then bounds source line (from_line rest 0)
other_way bounds source rest (Jump condition skip) j r c = absurd (j condition skip refl)
other_way bounds source rest (Return condition) j r c = absurd (r condition refl)
other_way bounds source rest (Call condition skip) j r c = absurd (c condition skip refl)
other_way bounds source rest line j r c = refl

-- whatever line it is, some path goes on after it
abbrev SomeWay : List ℕ → ℕ → List Worst → Code → Type 0
SomeWay bounds source rest line = (k : ℕ) × (line_worst bounds source rest line ≡ and_then bounds source line (from_line rest k))

turned_way : (rest : List Worst) (condition : Condition) (acting passing : ℕ) → (k : ℕ) × (turned condition (from_line rest acting) (from_line rest passing) ≡ from_line rest k)
turned_way rest condition acting passing = by condition
  where
    worse_way : (k : ℕ) × (worse (from_line rest passing) (from_line rest acting) ≡ from_line rest k)
    worse_way = elim (nat_lt (from_line rest passing).steps (from_line rest acting).steps) as (λ b. (k : ℕ) × ((if b then from_line rest acting else from_line rest passing) ≡ from_line rest k)) [ true ↦ (acting, refl) | false ↦ (passing, refl) ]

    by : (c : Condition) → (k : ℕ) × (turned c (from_line rest acting) (from_line rest passing) ≡ from_line rest k)
    by Always = (acting, refl)
    by IfTrue = worse_way
    by IfFalse = worse_way

some_way : (bounds : List ℕ) (source : ℕ) (rest : List Worst) (line : Code) → SomeWay bounds source rest line
some_way bounds source rest (Jump condition skip) = let w = turned_way rest condition skip 0 in (w.0, ap (one_more source) w.1)
some_way bounds source rest (Return condition) =
    let w = turned_way rest condition (length rest) 0 in
    let l : length rest ≤ length rest = omega arith in
    (w.0, ap (one_more source) (ap (λ x. turned condition x (from_line rest 0)) (sym (past rest (length rest) l)) ∙ w.1))
some_way bounds source rest (Call condition skip) = let w = turned_way rest condition 0 skip in (w.0, ap (one_more source) w.1)
some_way bounds source rest line = (0, refl)

own_small : (bounds : List ℕ) → AreSmall bounds → (line : Code) → own_steps bounds line ≤ MOST_STEPS
own_small bounds small (Body unit at) = small unit
own_small bounds small line = omega arith

-- no path is longer than its lines allow
one_small : (bounds : List ℕ) → AreSmall bounds → (source : ℕ) (rest : List Worst) (line : Code) (n : ℕ) → ((k : ℕ) → (from_line rest k).steps ≤ n * 1000000) → (line_worst bounds source rest line).steps ≤ suc n * 1000000
one_small bounds small source rest line n each =
    let w = some_way bounds source rest line in
    let e : (line_worst bounds source rest line).steps ≡ own_steps bounds line + (from_line rest w.0).steps = ap (λ (x : Worst). x.steps) w.1 ∙ then_steps bounds source line (from_line rest w.0) in
    let a = own_small bounds small line in
    let b = each w.0 in
    omega (arith, e, a, b)

pub lengths_small : (bounds : List ℕ) → AreSmall bounds → (code : List Code) (sources : List ℕ) (k : ℕ) → (from_line (worst_from bounds code sources) k).steps ≤ length code * 1000000
lengths_small bounds small [] sources k = omega arith
lengths_small bounds small (line ∷ code) [] zero = one_small bounds small 0 (worst_from bounds code []) line (length code) (lengths_small bounds small code [])
lengths_small bounds small (line ∷ code) (source ∷ sources) zero = one_small bounds small source (worst_from bounds code sources) line (length code) (lengths_small bounds small code sources)
lengths_small bounds small (line ∷ code) [] (suc k) = let a = lengths_small bounds small code [] k in omega (arith, a)
lengths_small bounds small (line ∷ code) (source ∷ sources) (suc k) = let a = lengths_small bounds small code sources k in omega (arith, a)

-- a line before others, at its line of the text
pub worst_in_prefix : (bounds : List ℕ) (line : Code) (code : List Code) (i : ℕ) (sources : List ℕ) → (source : ℕ) × (worst_from bounds (line ∷ code) (drop i sources) ≡ preceded bounds source line (worst_from bounds code (drop (suc i) sources)))
worst_in_prefix bounds line code zero [] = (0, refl)
worst_in_prefix bounds line code zero (source ∷ sources) = (source, refl)
worst_in_prefix bounds line code (suc i) [] = (0, refl)
worst_in_prefix bounds line code (suc i) (source ∷ sources) = worst_in_prefix bounds line code i sources

-- the path from one more line is written before those after it
pub one_more_way : (bounds : List ℕ) → AreSmall bounds → (code : List Code) (path_lengths : List ℕ) (i : ℕ) (line : Code) (sources : List ℕ) (steps : ℕ) → length code ≤ 65536 → i < length code → line ≡ get_or code i line → length path_lengths ≡ length code →
    drop (i + 1) path_lengths ≡ steps_of (worst_from bounds (drop (i + 1) code) (drop (i + 1) sources)) →
    ((source : ℕ) (rest : List Worst) → AreAfter path_lengths (i + 1) rest → (line_worst bounds source rest line).steps ≤ 18446744073709551615 → steps ≡ (line_worst bounds source rest line).steps) →
    drop i (set path_lengths i steps) ≡ steps_of (worst_from bounds (drop i code) (drop i sources))
one_more_way bounds small code path_lengths i line sources steps few below is count following way =
    let rest = worst_from bounds (drop (i + 1) code) (drop (i + 1) sources) in
    let next : suc i ≡ i + 1 = omega arith in
    let prefix = worst_in_prefix bounds line (drop (i + 1) code) i sources in
    let whole : worst_from bounds (drop i code) (drop i sources) ≡ preceded bounds prefix.0 line rest = ap (λ c. worst_from bounds c (drop i sources)) (from_index code i line below is) ∙ prefix.1 ∙ ap (λ n. preceded bounds prefix.0 line (worst_from bounds (drop (i + 1) code) (drop n sources))) next in
    let short = length-drop (i + 1) code in
    let most = one_small bounds small prefix.0 rest line (length (drop (i + 1) code)) (lengths_small bounds small (drop (i + 1) code) (drop (i + 1) sources)) in
    let there : i < length path_lengths = omega (arith, below, count) in
    drop-set path_lengths i steps there ∙ (λ j. way prefix.0 rest following (omega (arith, most, short, few)) j ∷ following j) ∙ sym (ap steps_of whole)

-- the lines of the text on a line's path
pub then_lines : (bounds : List ℕ) (source : ℕ) (line : Code) (way : Worst) → (and_then bounds source line way).lines ≡ own_source line source ++ way.lines
then_lines bounds source (ArgumentNumber target n) way = refl
then_lines bounds source another way = refl

-- the paths from a line on
none_left : (n : ℕ) → (let none : List ℕ = [] in drop n none ≡ none)
none_left zero = refl
none_left (suc n) = refl

drop_worst : (bounds : List ℕ) (i : ℕ) (code : List Code) (sources : List ℕ) → drop i (worst_from bounds code sources) ≡ worst_from bounds (drop i code) (drop i sources)
drop_worst bounds zero code sources = refl
drop_worst bounds (suc i) [] sources = refl
drop_worst bounds (suc i) (line ∷ code) [] = drop_worst bounds i code [] ∙ ap (worst_from bounds (drop i code)) (none_left i)
drop_worst bounds (suc i) (line ∷ code) (source ∷ sources) = drop_worst bounds i code sources

drop_steps : (i : ℕ) (path_lengths : List Worst) → drop i (steps_of path_lengths) ≡ steps_of (drop i path_lengths)
drop_steps zero path_lengths = refl
drop_steps (suc i) [] = refl
drop_steps (suc i) (way ∷ path_lengths) = drop_steps i path_lengths

pub after_all : (bounds : List ℕ) (code : List Code) (path_lengths : List ℕ) → ArePathLengths bounds code path_lengths → (sources : List ℕ) (i : ℕ) → AreAfter path_lengths i (worst_from bounds (drop i code) (drop i sources))
after_all bounds code path_lengths are sources i = ap (λ xs. drop i xs) (are sources) ∙ drop_steps i (worst_from bounds code sources) ∙ ap steps_of (drop_worst bounds i code sources)

-- a line at its line of the text, before others
worst_source : (bounds : List ℕ) (line : Code) (code : List Code) (i : ℕ) (sources : List ℕ) → worst_from bounds (line ∷ code) (drop i sources) ≡ preceded bounds (slice_index sources i) line (worst_from bounds code (drop (suc i) sources))
worst_source bounds line code zero [] = refl
worst_source bounds line code zero (source ∷ sources) = refl
worst_source bounds line code (suc i) [] = refl
worst_source bounds line code (suc i) (source ∷ sources) = worst_source bounds line code i sources

-- the lines listed so far, and those of the path that is left, which passes over some lines
abbrev pub Lists : List ℕ → List Code → List ℕ → ℕ → ℕ → List ℕ → Type 0
Lists bounds code sources i left lines = lines ++ (from_line (worst_from bounds (drop i code) (drop i sources)) left).lines ≡ (worst_of bounds code sources).lines

cut : (bounds : List ℕ) (code : List Code) (sources : List ℕ) (i : ℕ) (line : Code) → i < length code → line ≡ get_or code i line →
    worst_from bounds (drop i code) (drop i sources) ≡ preceded bounds (slice_index sources i) line (worst_from bounds (drop (i + 1) code) (drop (i + 1) sources))
cut bounds code sources i line below is =
    let next : suc i ≡ i + 1 = omega arith in
    ap (λ c. worst_from bounds c (drop i sources)) (from_index code i line below is) ∙ worst_source bounds line (drop (i + 1) code) i sources
    ∙ ap (λ n. preceded bounds (slice_index sources i) line (worst_from bounds (drop (i + 1) code) (drop n sources))) next

-- a line is passed over
pub passed_over : (bounds : List ℕ) (code : List Code) (sources : List ℕ) (i left more : ℕ) (lines : List ℕ) → i < length code → left ≡ suc more → Lists bounds code sources i left lines → Lists bounds code sources (i + 1) more lines
passed_over bounds code sources i left more lines below e h =
    let line : Code = get_or code i Not in
    let next : suc i ≡ i + 1 = omega arith in
    let there : drop i code ≡ line ∷ drop (i + 1) code = from_index_or code i Not below in
    let whole = ap (λ c. worst_from bounds c (drop i sources)) there ∙ worst_source bounds line (drop (i + 1) code) i sources ∙ ap (λ n. preceded bounds (slice_index sources i) line (worst_from bounds (drop (i + 1) code) (drop n sources))) next in
    subst (λ (w : List Worst). lines ++ (from_line w (suc more)).lines ≡ (worst_of bounds code sources).lines) whole (subst (λ n. Lists bounds code sources i n lines) e h)

-- a line is executed
pub executed : (bounds : List ℕ) (code : List Code) (sources : List ℕ) (i left more : ℕ) (line : Code) (lines new : List ℕ) → i < length code → line ≡ get_or code i line → left ≡ 0 →
    line_worst bounds (slice_index sources i) (worst_from bounds (drop (i + 1) code) (drop (i + 1) sources)) line ≡ and_then bounds (slice_index sources i) line (from_line (worst_from bounds (drop (i + 1) code) (drop (i + 1) sources)) more) →
    new ≡ lines ++ own_source line (slice_index sources i) → Lists bounds code sources i left lines → Lists bounds code sources (i + 1) more new
executed bounds code sources i left more line lines new below is e way f h =
    let source = slice_index sources i in
    let rest = worst_from bounds (drop (i + 1) code) (drop (i + 1) sources) in
    let here : lines ++ (line_worst bounds source rest line).lines ≡ (worst_of bounds code sources).lines =
    subst (λ (w : List Worst). lines ++ (from_line w 0).lines ≡ (worst_of bounds code sources).lines) (cut bounds code sources i line below is) (subst (λ n. Lists bounds code sources i n lines) e h)
    in
    ap (λ l. l ++ (from_line rest more).lines) f ∙ append_assoc lines (own_source line source) (from_line rest more).lines
    ∙ ap (λ l. lines ++ l) (sym (ap (λ (w : Worst). w.lines) way ∙ then_lines bounds source line (from_line rest more))) ∙ here
