-- The longest path of flat code is that of the body that it is.
use Rattle.wc_model.proofs.Common.{◌≡◌, ℕ, suc, ◌+◌, Bool, true, false, cond, ltb, List, [], ◌∷◌, ◌++◌, map, length, Option, Some, None, append_assoc, refl, sym, ap, subst, ◌∙◌, arith, if◌then◌else◌, slice_index, ltb-true, ltb-false}
use Rattle.std.proofs.lemmas.List.{length-append, length-map}
use Rattle.std.specs.Option.{option_map}
use Rattle.wc_text_flat.proofs.CallLines.{all_parts, lowered_after}
use Rattle.wc_text_flat.proofs.Bodies.{regrouped, step_lowered_length, lowered_length}
use Rattle.wc_text_flat.specs.{step_sources, sources_of, Worst, no_more, one_more, some_more, worse, from_line, turned, line_worst, worst_from, Operand, Number, At, load_line, apply_line, short_line, argument_line, AreArguments, AreOutputs, IsUnitBody, IsBodyOf, IsStepLowered, IsOpening, step_length, flat_length, lines_ahead, IsLowered}
use Rattle.wc_laws_language.proofs.Longest.{Found, prefixed, longer, trace_length, call_items, body_items, from_items, chosen, best_step, best_pass, nested_items, best}
use Rattle.wc_model.specs.Definitions.{VariableType, Elementary, Standard, Block, block_named, call_trace, carries, Name, Way, Onward, Toward, Back, arriving_way, Scope, type_of, Item, At as AtLine, Argument, StandardBody, Called, GivenOut, own_lines}
use Rattle.wc_model.specs.Language.Tree.{Word, Term, Assignment, inputs_of, outputs_of, Step, Load, Store as StoreStep, Apply, Negate, Jump, Call, Return, Lines, End, Alone, Plain, Nested, ProgramUnit}
use Rattle.wc_model.specs.declared.code.Code.{Code}
use Rattle.wc_model.specs.declared.code.Code.TheVariants.{Close}
use Rattle.wc_model.specs.declared.operator.Condition.{Condition}
use Rattle.wc_model.specs.declared.operator.Condition.TheVariants.{Always, IfTrue, IfFalse}
use Rattle.wc_model.specs.declared.operator.Operator.{Operator}
use Rattle.wc_laws_language.specs.SoundnessLaws.{is_simple, IsSimple, NestsSimply}
use Rattle.wc_laws_language.proofs.FramePlaces.{one_number}

-- the lines of items that are joined; of arguments, and of a called block's items
pub own_lines-append : (xs ys : List Item) → own_lines (xs ++ ys) ≡ own_lines xs ++ own_lines ys
own_lines-append [] ys = refl
own_lines-append (AtLine line ∷ xs) ys = ap (λ (ls : List ℕ). line ∷ ls) (own_lines-append xs ys)
own_lines-append (Argument ∷ xs) ys = own_lines-append xs ys
own_lines-append (GivenOut ∷ xs) ys = own_lines-append xs ys
own_lines-append (StandardBody ∷ xs) ys = own_lines-append xs ys
own_lines-append (Called item ∷ xs) ys = own_lines-append xs ys

pub no_own_lines : (xs : List Item) → own_lines (map Called xs) ≡ []
no_own_lines [] = refl
no_own_lines (x ∷ xs) = no_own_lines xs

pub no_lines_of_arguments : (arguments : List Assignment) (ys : List Item) → own_lines (map (λ argument. Argument) arguments ++ ys) ≡ own_lines ys
no_lines_of_arguments [] ys = refl
no_lines_of_arguments (argument ∷ arguments) ys = no_lines_of_arguments arguments ys

pub no_lines_of_outputs : (outputs : List Assignment) → own_lines (map (λ output. GivenOut) outputs) ≡ []
no_lines_of_outputs [] = refl
no_lines_of_outputs (output ∷ outputs) = no_lines_of_outputs outputs

-- a path has these steps and these lines
abbrev pub MeasuredAs : Found → Worst → Type 0
MeasuredAs None way = ⊥
MeasuredAs (Some path) way = (way.steps ≡ length path) × (way.lines ≡ own_lines path)

-- one more line, and the longer of two
pub measured_line : (line : ℕ) (found : Found) (way : Worst) → MeasuredAs found way → MeasuredAs (prefixed (AtLine line ∷ []) found) (one_more line way)
measured_line line None way m = m
measured_line line (Some path) way m = (let e = m.0 in omega (arith, e), ap (λ (ls : List ℕ). line ∷ ls) m.1)

pub measured_longer : (a b : Found) (first other : Worst) → MeasuredAs a first → MeasuredAs b other → MeasuredAs (longer a b) (worse first other)
measured_longer None b first other m n = absurd m
measured_longer (Some a) None first other m n = absurd n
measured_longer (Some a) (Some b) first other m n = step (ltb first.steps other.steps) refl
  where
    step : (t : Bool) → ltb first.steps other.steps ≡ t → MeasuredAs (Some (cond (ltb (length a) (length b)) b a)) (if t then other else first)
    step true e = subst (λ t. MeasuredAs (Some (cond t b a)) other) (sym (ap (λ n. ltb n (length b)) (sym m.0) ∙ (ap (λ n. ltb first.steps n) (sym n.0) ∙ e))) n
    step false e = subst (λ t. MeasuredAs (Some (cond t b a)) first) (sym (ap (λ n. ltb n (length b)) (sym m.0) ∙ (ap (λ n. ltb first.steps n) (sym n.0) ∙ e))) m

-- one more step on both sides leaves the comparison
pub both_later : (a b : ℕ) → ltb (1 + a) (1 + b) ≡ ltb a b
both_later a b = step (ltb a b) (ltb (1 + a) (1 + b)) refl refl
  where
    step : (x y : Bool) → ltb a b ≡ x → ltb (1 + a) (1 + b) ≡ y → y ≡ x
    step true true e f = refl
    step false false e f = refl
    step true false e f = absurd (let l = ltb-true a b e in let m = ltb-false (1 + a) (1 + b) f in omega (arith, l, m))
    step false true e f = absurd (let l = ltb-false a b e in let m = ltb-true (1 + a) (1 + b) f in omega (arith, l, m))

pub worse_later : (line : ℕ) (x y : Worst) → worse (one_more line x) (one_more line y) ≡ one_more line (worse x y)
worse_later line x y = ap (λ b. if b then one_more line y else one_more line x) (both_later x.steps y.steps) ∙ step (ltb x.steps y.steps)
  where
    step : (b : Bool) → (if b then one_more line y else one_more line x) ≡ one_more line (if b then y else x)
    step true = refl
    step false = refl

-- a conditional
pub measured_chosen : (condition : Condition) (line : ℕ) (acting passing : Found) (there onward : Worst) → MeasuredAs acting (one_more line there) → MeasuredAs passing (one_more line onward) → MeasuredAs (chosen condition acting passing) (one_more line (turned condition there onward))
measured_chosen Always line acting passing there onward a p = a
measured_chosen IfTrue line acting passing there onward a p = subst (λ (w : Worst). MeasuredAs (longer passing acting) w) (worse_later line onward there) (measured_longer passing acting (one_more line onward) (one_more line there) p a)
measured_chosen IfFalse line acting passing there onward a p = subst (λ (w : Worst). MeasuredAs (longer passing acting) w) (worse_later line onward there) (measured_longer passing acting (one_more line onward) (one_more line there) p a)

-- the paths from lines after others
pub worst_after : (bounds : List ℕ) (own others : List Code) (mine sources : List ℕ) (n : ℕ) → length mine ≡ length own → from_line (worst_from bounds (own ++ others) (mine ++ sources)) (length own + n) ≡ from_line (worst_from bounds others sources) n
worst_after bounds [] others [] sources n e = ap (from_line (worst_from bounds others sources)) (let a : 0 + n ≡ n = omega arith in a)
worst_after bounds [] others (m ∷ mine) sources n e = absurd (omega (arith, e))
worst_after bounds (line ∷ own) others [] sources n e = absurd (omega (arith, e))
worst_after bounds (line ∷ own) others (m ∷ mine) sources n e =
    ap (from_line (worst_from bounds (line ∷ own ++ others) (m ∷ mine ++ sources))) (let a : length (line ∷ own) + n ≡ suc (length own + n) = omega arith in a)
    ∙ worst_after bounds own others mine sources n (omega (arith, e))

-- the lines of operands are lines of the body
pub load_measured : (bounds : List ℕ) (source : ℕ) (rest : List Worst) (negated : Bool) (o : Operand) → line_worst bounds source rest (load_line negated o) ≡ one_more source (from_line rest 0)
load_measured bounds source rest negated (Number n) = refl
load_measured bounds source rest negated (At place) = refl

pub apply_measured : (bounds : List ℕ) (source : ℕ) (rest : List Worst) (operator : Operator) (o : Operand) → line_worst bounds source rest (apply_line operator o) ≡ one_more source (from_line rest 0)
apply_measured bounds source rest operator (Number n) = refl
apply_measured bounds source rest operator (At place) = refl

pub short_measured : (bounds : List ℕ) (source : ℕ) (rest : List Worst) (o : Operand) → line_worst bounds source rest (short_line o) ≡ one_more source (from_line rest 0)
short_measured bounds source rest (Number n) = refl
short_measured bounds source rest (At place) = refl

pub argument_measured : (bounds : List ℕ) (source : ℕ) (rest : List Worst) (o : Operand) (target : Rattle.wc_model.specs.declared.place.Place.Place) → line_worst bounds source rest (argument_line o target) ≡ some_more 1 (from_line rest 0)
argument_measured bounds source rest (Number n) target = refl
argument_measured bounds source rest (At place) target = refl

pub opening_measured : (bounds : List ℕ) (scope : Scope) (source : ℕ) (rest : List Worst) (operand : Option Term) (line : Code) → IsOpening scope operand line → line_worst bounds source rest line ≡ one_more source (from_line rest 0)
opening_measured bounds scope source rest None line is = ap (line_worst bounds source rest) is
opening_measured bounds scope source rest (Some term) line is = ap (line_worst bounds source rest) is.2 ∙ short_measured bounds source rest is.0

-- a step that is one line and goes on
abbrev pub is_plain : Step → Bool
is_plain (Load negated operand) = true
is_plain (StoreStep storing target) = true
is_plain (Apply operator operand) = true
is_plain Negate = true
is_plain (Jump condition label) = false
is_plain (Call condition instance arguments) = false
is_plain (Return condition) = false

pub plain_line : (bounds : List ℕ) (scope : Scope) (rest : Lines) (step : Step) → is_plain step ≡ true → (line : ℕ) (own others : List Code) (sources : List ℕ) → IsStepLowered scope rest step own → from_line (worst_from bounds (own ++ others) (step_sources line step ++ sources)) 0 ≡ one_more line (from_line (worst_from bounds others sources) 0)
plain_line bounds scope rest (Load negated term) p line own others sources lowered = ap (λ (c : List Code). from_line (worst_from bounds (c ++ others) (line ∷ sources)) 0) lowered.2 ∙ load_measured bounds line (worst_from bounds others sources) negated lowered.0
plain_line bounds scope rest (StoreStep storing target) p line own others sources lowered = ap (λ (c : List Code). from_line (worst_from bounds (c ++ others) (line ∷ sources)) 0) lowered.2
plain_line bounds scope rest (Apply operator term) p line own others sources lowered = ap (λ (c : List Code). from_line (worst_from bounds (c ++ others) (line ∷ sources)) 0) lowered.2 ∙ apply_measured bounds line (worst_from bounds others sources) operator lowered.0
plain_line bounds scope rest Negate p line own others sources lowered = ap (λ (c : List Code). from_line (worst_from bounds (c ++ others) (line ∷ sources)) 0) lowered
plain_line bounds scope rest (Jump condition label) p line own others sources lowered = cc
plain_line bounds scope rest (Call condition instance arguments) p line own others sources lowered = cc
plain_line bounds scope rest (Return condition) p line own others sources lowered = cc

-- and its longest path goes on with the next line
pub plain_best : (block : Name → Found) (scope : Scope) (line : ℕ) (step : Step) → is_plain step ≡ true → (go : Way → Found) → best_step block scope line step go ≡ prefixed (AtLine line ∷ []) (go Onward)
plain_best block scope line (Load negated operand) p go = refl
plain_best block scope line (StoreStep storing target) p go = refl
plain_best block scope line (Apply operator operand) p go = refl
plain_best block scope line Negate p go = refl
plain_best block scope line (Jump condition label) p go = cc
plain_best block scope line (Call condition instance arguments) p go = cc
plain_best block scope line (Return condition) p go = cc

pub simple_is_plain : (step : Step) → is_simple step ≡ true → is_plain step ≡ true
simple_is_plain (Load negated operand) s = refl
simple_is_plain (StoreStep storing target) s = refl
simple_is_plain (Apply operator operand) s = refl
simple_is_plain Negate s = refl
simple_is_plain (Jump condition label) s = cc
simple_is_plain (Call condition instance arguments) s = cc
simple_is_plain (Return condition) s = cc

-- a path before a worst path
abbrev pub before_way : List Item → Worst → Worst
before_way path way = record { steps = length path + way.steps; lines = own_lines path ++ way.lines }

pub before_nothing : (way : Worst) → way ≡ before_way [] way
before_nothing way = ap (λ n. let w : Worst = record { steps = n; lines = way.lines } in w) (let a : way.steps ≡ 0 + way.steps = omega arith in a)

pub before_line : (line : ℕ) (path : List Item) (way : Worst) → one_more line (before_way path way) ≡ before_way (AtLine line ∷ path) way
before_line line path way = ap (λ n. let w : Worst = record { steps = n; lines = line ∷ own_lines path ++ way.lines } in w) (let a : 1 + (length path + way.steps) ≡ length (AtLine line ∷ path) + way.steps = omega arith in a)

-- the items of a parenthesis before a path
pub before_nested : (line close : ℕ) (inner path : List Item) (way : Worst) → one_more line (before_way inner (one_more close (before_way path way))) ≡ before_way ((AtLine line ∷ inner ++ AtLine close ∷ []) ++ path) way
before_nested line close inner path way = joined counted listed
  where
    whole : List Item
    whole = (AtLine line ∷ inner ++ AtLine close ∷ []) ++ path

    same : (inner ++ AtLine close ∷ []) ++ path ≡ inner ++ AtLine close ∷ path
    same = append_assoc inner (AtLine close ∷ []) path

    counted : 1 + (length inner + (1 + (length path + way.steps))) ≡ length whole + way.steps
    counted =
        let a = ap (λ (xs : List Item). length xs) same in
        let b = length-append inner (AtLine close ∷ path) in
        omega (arith, a, b)

    listed : line ∷ (own_lines inner ++ (close ∷ own_lines path ++ way.lines)) ≡ own_lines whole ++ way.lines
    listed =
        ap (λ (ls : List ℕ). line ∷ ls) (sym (append_assoc (own_lines inner) (close ∷ own_lines path) way.lines) ∙ ap (λ (ls : List ℕ). ls ++ way.lines) (sym (own_lines-append inner (AtLine close ∷ path)) ∙ ap own_lines (sym same)))

    joined : {a b : ℕ} {xs ys : List ℕ} → a ≡ b → xs ≡ ys → (let v : Worst = record { steps = a; lines = xs } in let w : Worst = record { steps = b; lines = ys } in v ≡ w)
    joined {a = a} {b = b} {xs = xs} {ys = ys} e f = ap (λ n. let w : Worst = record { steps = n; lines = xs } in w) e ∙ ap (λ (ls : List ℕ). let w : Worst = record { steps = b; lines = ls } in w) f

-- the lines inside a parenthesis have a longest path, and the flat lines have its steps and lines before whatever follows
pub record InsideMeasured (bounds : List ℕ) (found : Found) (code : List Code) (sources : List ℕ) : Type 0 where
  pub path : List Item
  pub is : found ≡ Some path
  pub way : (others : List Code) (more : List ℕ) → from_line (worst_from bounds (code ++ others) (sources ++ more)) 0 ≡ before_way path (from_line (worst_from bounds others more) 0)

pub inside_measured : (bounds : List ℕ) (block : Name → Found) (scope : Scope) (lines : Lines) → IsSimple lines → (code : List Code) → IsLowered scope lines code → InsideMeasured bounds (best block scope lines Onward) code (sources_of lines)
inside_measured bounds block scope End simple code lowered = record {
  path = [];
  is = refl;
  way = λ others more. ap (λ (c : List Code). from_line (worst_from bounds (c ++ others) more) 0) lowered ∙ before_nothing (from_line (worst_from bounds others more) 0);
}
inside_measured bounds block scope (Alone word rest) simple code lowered = inside_measured bounds block scope rest simple code lowered
inside_measured bounds block scope (Plain word line step rest) simple code lowered =
    let p = simple_is_plain step simple.0 in
    let m = inside_measured bounds block scope rest simple.1 lowered.others lowered.rest in
    record {
      path = AtLine line ∷ m.path;
      is = plain_best block scope line step p (best block scope rest) ∙ ap (prefixed (AtLine line ∷ [])) m.is;
      way = λ others more. ap (λ (c : List Code). from_line (worst_from bounds (c ++ others) ((step_sources line step ++ sources_of rest) ++ more)) 0) lowered.whole
          ∙ (ap (λ (c : List Code). from_line (worst_from bounds c ((step_sources line step ++ sources_of rest) ++ more)) 0) (append_assoc lowered.own lowered.others others)
          ∙ (ap (λ (ns : List ℕ). from_line (worst_from bounds (lowered.own ++ (lowered.others ++ others)) ns) 0) (append_assoc (step_sources line step) (sources_of rest) more)
          ∙ (plain_line bounds scope rest step p line lowered.own (lowered.others ++ others) (sources_of rest ++ more) lowered.step
          ∙ (ap (one_more line) (m.way others more) ∙ before_line line m.path (from_line (worst_from bounds others more) 0)))));
    }
inside_measured bounds block scope (Nested word line operator operand inside close rest) simple code lowered =
    let i = inside_measured bounds block scope inside simple.0 lowered.inner lowered.inside in
    let m = inside_measured bounds block scope rest simple.1 lowered.others lowered.rest in
    record {
      path = (AtLine line ∷ i.path ++ AtLine close ∷ []) ++ m.path;
      is = ap (λ (f : Found). from_items (nested_items line close f) (best block scope rest Onward)) i.is ∙ ap (prefixed (AtLine line ∷ i.path ++ AtLine close ∷ [])) m.is;
      way = λ others more. ap (λ (c : List Code). from_line (worst_from bounds (c ++ others) ((line ∷ sources_of inside ++ close ∷ sources_of rest) ++ more)) 0) lowered.whole
          ∙ (ap (λ (c : List Code). from_line (worst_from bounds (lowered.opening ∷ c) (line ∷ (sources_of inside ++ close ∷ sources_of rest) ++ more)) 0) (append_assoc lowered.inner (Close operator ∷ lowered.others) others)
          ∙ (ap (λ (ns : List ℕ). from_line (worst_from bounds (lowered.opening ∷ (lowered.inner ++ (Close operator ∷ lowered.others ++ others))) (line ∷ ns)) 0) (append_assoc (sources_of inside) (close ∷ sources_of rest) more)
          ∙ (opening_measured bounds scope line (worst_from bounds (lowered.inner ++ (Close operator ∷ lowered.others ++ others)) (sources_of inside ++ (close ∷ sources_of rest ++ more))) operand lowered.opening lowered.opens
          ∙ (ap (one_more line) (i.way (Close operator ∷ lowered.others ++ others) (close ∷ sources_of rest ++ more))
          ∙ (ap (λ (w : Worst). one_more line (before_way i.path (one_more close w))) (m.way others more)
          ∙ before_nested line close i.path m.path (from_line (worst_from bounds others more) 0))))));
    }

-- no more steps, and steps before steps
pub some_none : (way : Worst) → some_more 0 way ≡ way
some_none way = ap (λ n. let w : Worst = record { steps = n; lines = way.lines } in w) (let a : 0 + way.steps ≡ way.steps = omega arith in a)

pub some_twice : (a b : ℕ) (way : Worst) → some_more a (some_more b way) ≡ some_more (a + b) way
some_twice a b way = ap (λ n. let w : Worst = record { steps = n; lines = way.lines } in w) (let e : a + (b + way.steps) ≡ a + b + way.steps = omega arith in e)

-- one more that is moved
pub one_moved : (bounds : List ℕ) (line : ℕ) (rest : List Worst) (operand : Operand) (target : Rattle.wc_model.specs.declared.place.Place.Place) (count : ℕ) (way : Worst) → from_line rest 0 ≡ some_more count way → line_worst bounds line rest (argument_line operand target) ≡ some_more (1 + count) way
one_moved bounds line rest operand target count way e = argument_measured bounds line rest operand target ∙ (ap (some_more 1) e ∙ some_twice 1 count way)

-- the inputs of a call, and its outputs
pub arguments_measured : (bounds : List ℕ) (scope : Scope) (instance : Name) (line : ℕ) (arguments : List Assignment) (lines : List Code) → AreArguments scope instance arguments lines → (others : List Code) (sources : List ℕ) → from_line (worst_from bounds (lines ++ others) (map (λ argument. line) arguments ++ sources)) 0 ≡ some_more (length arguments) (from_line (worst_from bounds others sources) 0)
arguments_measured bounds scope instance line [] [] are others sources = sym (some_none (from_line (worst_from bounds others sources) 0))
arguments_measured bounds scope instance line [] (first ∷ lines) are others sources = absurd are
arguments_measured bounds scope instance line (argument ∷ arguments) [] are others sources = absurd are
arguments_measured bounds scope instance line (argument ∷ arguments) (first ∷ lines) are others sources =
    let is = are.0 in
    ap (λ (c : Code). line_worst bounds line (worst_from bounds (lines ++ others) (map (λ a. line) arguments ++ sources)) c) is.4
    ∙ one_moved bounds line (worst_from bounds (lines ++ others) (map (λ a. line) arguments ++ sources)) is.0 is.1 (length arguments) (from_line (worst_from bounds others sources) 0) (arguments_measured bounds scope instance line arguments lines are.1 others sources)
    ∙ ap (λ n. some_more n (from_line (worst_from bounds others sources) 0)) (let a : 1 + length arguments ≡ length (argument ∷ arguments) = omega arith in a)

pub outputs_measured : (bounds : List ℕ) (scope : Scope) (instance : Name) (line : ℕ) (outputs : List Assignment) (lines : List Code) → AreOutputs scope instance outputs lines → (others : List Code) (sources : List ℕ) → from_line (worst_from bounds (lines ++ others) (map (λ output. line) outputs ++ sources)) 0 ≡ some_more (length outputs) (from_line (worst_from bounds others sources) 0)
outputs_measured bounds scope instance line [] [] are others sources = sym (some_none (from_line (worst_from bounds others sources) 0))
outputs_measured bounds scope instance line [] (first ∷ lines) are others sources = absurd are
outputs_measured bounds scope instance line (output ∷ outputs) [] are others sources = absurd are
outputs_measured bounds scope instance line (output ∷ outputs) (first ∷ lines) are others sources =
    let is = are.0 in
    ap (λ (c : Code). line_worst bounds line (worst_from bounds (lines ++ others) (map (λ a. line) outputs ++ sources)) c) is.4
    ∙ one_moved bounds line (worst_from bounds (lines ++ others) (map (λ a. line) outputs ++ sources)) is.0 is.1 (length outputs) (from_line (worst_from bounds others sources) 0) (outputs_measured bounds scope instance line outputs lines are.1 others sources)
    ∙ ap (λ n. some_more n (from_line (worst_from bounds others sources) 0)) (let a : 1 + length outputs ≡ length (output ∷ outputs) = omega arith in a)

-- the bounds of blocks are the lengths of their longest paths
abbrev pub BlocksMeasured : List ℕ → List ProgramUnit → (Name → Found) → Type 0
BlocksMeasured bounds before block = (name : Name) (unit : ProgramUnit) (earlier : List ProgramUnit) → block_named before name ≡ Some (unit, earlier) → (path : List Item) × (block name ≡ Some path) × (slice_index bounds (length earlier) ≡ length path)

-- the body of what is called
pub record BodyMeasured (bounds : List ℕ) (found : Found) (body : Code) : Type 0 where
  pub items : List Item
  pub is : found ≡ Some items
  pub none_own : own_lines items ≡ []
  pub way : (source : ℕ) (rest : List Worst) → line_worst bounds source rest body ≡ some_more (length items) (from_line rest 0)

pub body_measured : (bounds : List ℕ) (block : Name → Found) (scope : Scope) → BlocksMeasured bounds scope.before block → (instance : Name) (type : Option VariableType) (body : Code) → IsBodyOf scope instance type body → BodyMeasured bounds (body_items block type) body
body_measured bounds block scope known instance None body lowered = absurd lowered
body_measured bounds block scope known instance (Some (Elementary kind)) body lowered = absurd lowered
body_measured bounds block scope known instance (Some (Standard b)) body lowered = record {
  items = StandardBody ∷ [];
  is = refl;
  none_own = refl;
  way = λ source rest. ap (line_worst bounds source rest) lowered.2;
}
body_measured bounds block scope known instance (Some (Block name)) body lowered = step (block_named scope.before name) refl lowered
  where
    step : (b : Option (ProgramUnit × List ProgramUnit)) → block_named scope.before name ≡ b → IsUnitBody scope instance b body → BodyMeasured bounds (body_items block (Some (Block name))) body
    step None e is = absurd is
    step (Some found) e is =
        let k = known name found.0 found.1 e in
        record {
          items = map Called k.0;
          is = ap (λ (f : Found). elim f as (λ x. Found) [ None ↦ None | Some path ↦ Some (map Called path) ]) k.1;
          none_own = no_own_lines k.0;
          way = λ source rest. ap (line_worst bounds source rest) is.2 ∙ ap (λ n. some_more n (from_line rest 0)) (k.2 ∙ sym (length-map k.0 Called));
        }

-- the number of sources after a call's own
pub marks_length : (line : ℕ) (arguments : List Assignment) → length (map (λ (input : Assignment). line) (inputs_of arguments) ++ line ∷ map (λ (output : Assignment). line) (outputs_of arguments)) ≡ 1 + length arguments
marks_length line arguments =
    let inputs : List ℕ = map (λ (input : Assignment). line) (inputs_of arguments) in
    let outputs : List ℕ = map (λ (output : Assignment). line) (outputs_of arguments) in
    let a = length-append inputs (line ∷ outputs) in
    let b = length-map (inputs_of arguments) (λ (input : Assignment). line) in
    let c = length-map (outputs_of arguments) (λ (output : Assignment). line) in
    let d = all_parts arguments in
    let e : length (line ∷ outputs) ≡ 1 + length outputs = omega arith in
    omega (arith, a, b, c, d, e)

-- what a call that is made executes has the call's line alone of the unit's own
pub own_line_of_call : (line : ℕ) (arguments : List Assignment) (items : List Item) → own_lines items ≡ [] → own_lines (call_trace line arguments items) ≡ line ∷ []
own_line_of_call line arguments items none =
    ap (λ (ls : List ℕ). line ∷ ls)
    (own_lines-append (map (λ (input : Assignment). Argument) (inputs_of arguments) ++ items) (map (λ (output : Assignment). GivenOut) (outputs_of arguments))
    ∙ (ap (λ (ls : List ℕ). ls ++ own_lines (map (λ (output : Assignment). GivenOut) (outputs_of arguments))) (no_lines_of_arguments (inputs_of arguments) items ∙ none)
    ∙ no_lines_of_outputs (outputs_of arguments)))

-- a call that is made, and then the next line
pub acting_measured : (line : ℕ) (arguments : List Assignment) (items : List Item) → own_lines items ≡ [] → (rest : Found) (way : Worst) → MeasuredAs rest way → MeasuredAs (from_items (call_items line arguments (Some items)) rest) (one_more line (some_more (length (inputs_of arguments)) (some_more (length items) (some_more (length (outputs_of arguments)) way))))
acting_measured line arguments items none None way m = absurd m
acting_measured line arguments items none (Some path) way m = (
  let a = trace_length line arguments items in
      let c = length-append (call_trace line arguments items) path in
      let d = m.0 in
      omega (arith, a, c, d),
  ap (λ (ls : List ℕ). line ∷ ls) m.1 ∙ sym (own_lines-append (call_trace line arguments items) path ∙ ap (λ (ls : List ℕ). ls ++ own_lines path) (own_line_of_call line arguments items none)),
)

-- a call
pub call_measured : (bounds : List ℕ) (block : Name → Found) (scope : Scope) → BlocksMeasured bounds scope.before block → (line : ℕ) (condition : Condition) (instance : Name) (arguments : List Assignment) (rest : Lines) (own others : List Code) (sources : List ℕ) → IsStepLowered scope rest (Call condition instance arguments) own → (go : Way → Found) → MeasuredAs (go Onward) (from_line (worst_from bounds others sources) 0) → MeasuredAs (best_step block scope line (Call condition instance arguments) go) (from_line (worst_from bounds (own ++ others) (step_sources line (Call condition instance arguments) ++ sources)) 0)
call_measured bounds block scope known line condition instance arguments rest own others sources lowered go m =
    subst (λ (w : Worst). MeasuredAs (best_step block scope line (Call condition instance arguments) go) w) (sym whole)
    (measured_chosen condition line (from_items (call_items line arguments (body_items block (type_of scope instance))) (go Onward)) (prefixed (AtLine line ∷ []) (go Onward)) inside left
    (subst (λ (f : Found). MeasuredAs (from_items (call_items line arguments f) (go Onward)) (one_more line inside)) (sym body.is) (acting_measured line arguments body.items body.none_own (go Onward) left m))
    (measured_line line (go Onward) left m))
  where
    body : BodyMeasured bounds (body_items block (type_of scope instance)) lowered.body
    body = body_measured bounds block scope known instance (type_of scope instance) lowered.body lowered.called

    left : Worst
    left = from_line (worst_from bounds others sources) 0

    inside : Worst
    inside = some_more (length (inputs_of arguments)) (some_more (length body.items) (some_more (length (outputs_of arguments)) left))

    inputs : List ℕ
    inputs = map (λ input. line) (inputs_of arguments)

    outputs : List ℕ
    outputs = map (λ output. line) (outputs_of arguments)

    lines : List Code
    lines = lowered.assigned ++ lowered.body ∷ lowered.given

    following : List Worst
    following = worst_from bounds (lines ++ others) ((inputs ++ line ∷ outputs) ++ sources)

    made : from_line following 0 ≡ inside
    made =
        ap (λ (c : List Code). from_line (worst_from bounds c ((inputs ++ line ∷ outputs) ++ sources)) 0) (append_assoc lowered.assigned (lowered.body ∷ lowered.given) others)
        ∙ (ap (λ (ns : List ℕ). from_line (worst_from bounds (lowered.assigned ++ (lowered.body ∷ lowered.given ++ others)) ns) 0) (append_assoc inputs (line ∷ outputs) sources)
        ∙ (arguments_measured bounds scope instance line (inputs_of arguments) lowered.assigned lowered.inputs (lowered.body ∷ lowered.given ++ others) (line ∷ outputs ++ sources)
        ∙ ap (some_more (length (inputs_of arguments)))
        (body.way line (worst_from bounds (lowered.given ++ others) (outputs ++ sources))
        ∙ ap (some_more (length body.items)) (outputs_measured bounds scope instance line (outputs_of arguments) lowered.given lowered.outputs others sources))))

    passed : from_line following (1 + length arguments) ≡ left
    passed =
        let a = lowered_after scope condition instance arguments own lowered in
        let b = marks_length line arguments in
        ap (from_line following) (let e : 1 + length arguments ≡ length lines + 0 = omega (arith, a) in e)
        ∙ worst_after bounds lines others (inputs ++ line ∷ outputs) sources 0 (omega (arith, a, b))

    whole : from_line (worst_from bounds (own ++ others) (step_sources line (Call condition instance arguments) ++ sources)) 0 ≡ one_more line (turned condition inside left)
    whole =
        ap (λ (c : List Code). from_line (worst_from bounds (c ++ others) (line ∷ ((inputs ++ line ∷ outputs) ++ sources))) 0) lowered.is
        ∙ (ap (λ (w : Worst). one_more line (turned condition w (from_line following (1 + length arguments)))) made
        ∙ ap (λ (w : Worst). one_more line (turned condition inside w)) passed)

-- the flat path of a path that precedes these lines
abbrev pub IsWayOf : Lines → Way → List Worst → Worst → Type 0
IsWayOf lines Onward edges way = way ≡ from_line edges 0
IsWayOf lines (Toward label) edges way = (n : ℕ) × (lines_ahead lines label ≡ Some n) × (way ≡ from_line edges n)
IsWayOf lines Back edges way = way ≡ no_more

-- the longest paths of lines are measured by flat paths
abbrev pub LinesMeasured : (Name → Found) → Scope → Lines → List Worst → Type 0
LinesMeasured block scope lines edges = (next : Way) (way : Worst) → IsWayOf lines next edges way → MeasuredAs (best block scope lines next) way

-- a step that is one line and goes on
pub plain_measured : (bounds : List ℕ) (block : Name → Found) (scope : Scope) (rest : Lines) (step : Step) → is_plain step ≡ true → (line : ℕ) (own others : List Code) (sources : List ℕ) → IsStepLowered scope rest step own → MeasuredAs (best block scope rest Onward) (from_line (worst_from bounds others sources) 0) → MeasuredAs (best_step block scope line step (best block scope rest)) (from_line (worst_from bounds (own ++ others) (step_sources line step ++ sources)) 0)
plain_measured bounds block scope rest step p line own others sources lowered m =
    subst (λ (w : Worst). MeasuredAs (best_step block scope line step (best block scope rest)) w) (sym (plain_line bounds scope rest step p line own others sources lowered))
    (subst (λ (f : Found). MeasuredAs f (one_more line (from_line (worst_from bounds others sources) 0))) (sym (plain_best block scope line step p (best block scope rest)))
    (measured_line line (best block scope rest Onward) (from_line (worst_from bounds others sources) 0) m))

-- a step that is executed
pub step_measured : (bounds : List ℕ) (block : Name → Found) (scope : Scope) → BlocksMeasured bounds scope.before block → (line : ℕ) (step : Step) (rest : Lines) (own others : List Code) (sources : List ℕ) → IsStepLowered scope rest step own → LinesMeasured block scope rest (worst_from bounds others sources) → MeasuredAs (best_step block scope line step (best block scope rest)) (from_line (worst_from bounds (own ++ others) (step_sources line step ++ sources)) 0)
step_measured bounds block scope known line (Jump condition label) rest own others sources lowered m =
    subst (λ (c : List Code). MeasuredAs (best_step block scope line (Jump condition label) (best block scope rest)) (from_line (worst_from bounds (c ++ others) (line ∷ sources)) 0)) (sym lowered.2)
    (measured_chosen condition line (prefixed (AtLine line ∷ []) (best block scope rest (Toward label))) (prefixed (AtLine line ∷ []) (best block scope rest Onward)) (from_line (worst_from bounds others sources) lowered.0) (from_line (worst_from bounds others sources) 0)
    (measured_line line (best block scope rest (Toward label)) (from_line (worst_from bounds others sources) lowered.0) (m (Toward label) (from_line (worst_from bounds others sources) lowered.0) (lowered.0, lowered.1, refl)))
    (measured_line line (best block scope rest Onward) (from_line (worst_from bounds others sources) 0) (m Onward (from_line (worst_from bounds others sources) 0) refl)))
step_measured bounds block scope known line (Return condition) rest own others sources lowered m =
    subst (λ (c : List Code). MeasuredAs (best_step block scope line (Return condition) (best block scope rest)) (from_line (worst_from bounds (c ++ others) (line ∷ sources)) 0)) (sym lowered)
    (measured_chosen condition line (prefixed (AtLine line ∷ []) (best block scope rest Back)) (prefixed (AtLine line ∷ []) (best block scope rest Onward)) no_more (from_line (worst_from bounds others sources) 0)
    (measured_line line (best block scope rest Back) no_more (m Back no_more refl))
    (measured_line line (best block scope rest Onward) (from_line (worst_from bounds others sources) 0) (m Onward (from_line (worst_from bounds others sources) 0) refl)))
step_measured bounds block scope known line (Call condition instance arguments) rest own others sources lowered m =
    call_measured bounds block scope known line condition instance arguments rest own others sources lowered (best block scope rest) (m Onward (from_line (worst_from bounds others sources) 0) refl)
step_measured bounds block scope known line (Load negated term) rest own others sources lowered m = plain_measured bounds block scope rest (Load negated term) refl line own others sources lowered (m Onward (from_line (worst_from bounds others sources) 0) refl)
step_measured bounds block scope known line (StoreStep storing target) rest own others sources lowered m = plain_measured bounds block scope rest (StoreStep storing target) refl line own others sources lowered (m Onward (from_line (worst_from bounds others sources) 0) refl)
step_measured bounds block scope known line (Apply operator term) rest own others sources lowered m = plain_measured bounds block scope rest (Apply operator term) refl line own others sources lowered (m Onward (from_line (worst_from bounds others sources) 0) refl)
step_measured bounds block scope known line Negate rest own others sources lowered m = plain_measured bounds block scope rest Negate refl line own others sources lowered (m Onward (from_line (worst_from bounds others sources) 0) refl)

-- what is passed over adds nothing
pub measured_passing : (found : Found) (way : Worst) → MeasuredAs found way → MeasuredAs (prefixed [] found) way
measured_passing None way m = m
measured_passing (Some path) way m = m

-- the flat path of a path before a line with n flat lines
abbrev pub IsWayAfter : ℕ → Lines → Way → List Worst → Worst → Type 0
IsWayAfter n rest Onward edges way = way ≡ from_line edges 0
IsWayAfter n rest (Toward label) edges way = (m : ℕ) × (lines_ahead rest label ≡ Some m) × (way ≡ from_line edges (n + m))
IsWayAfter n rest Back edges way = way ≡ no_more

pub way_arrives : (lines rest : Lines) (word : Option Word) (n : ℕ) (edges : List Worst) → ((label : Name) → lines_ahead lines label ≡ (if carries word label then Some 0 else option_map (λ m. n + m) (lines_ahead rest label))) → (next : Way) (way : Worst) → IsWayOf lines next edges way → IsWayAfter n rest (arriving_way word next) edges way
way_arrives lines rest word n edges so Onward way is = is
way_arrives lines rest word n edges so Back way is = is
way_arrives lines rest word n edges so (Toward label) way is = step (carries word label) (sym (so label) ∙ is.1)
  where
    further : (o : Option ℕ) → lines_ahead rest label ≡ o → option_map (λ m. n + m) o ≡ Some is.0 → (m : ℕ) × (lines_ahead rest label ≡ Some m) × (way ≡ from_line edges (n + m))
    further None e f = cc
    further (Some m) e f = (m, e, is.2 ∙ ap (from_line edges) (one_number (Some is.0) is.0 (n + m) refl (sym f)))

    step : (b : Bool) → (if b then Some 0 else option_map (λ m. n + m) (lines_ahead rest label)) ≡ Some is.0 → IsWayAfter n rest (elim b as (λ x. Way) [ true ↦ Onward | false ↦ Toward label ]) edges way
    step true e = is.2 ∙ ap (from_line edges) (one_number (Some is.0) is.0 0 refl (sym e))
    step false e = further (lines_ahead rest label) refl e

-- a line, executed or passed over
pub pass_measured : (bounds : List ℕ) (block : Name → Found) (scope : Scope) (rest : Lines) (own others : List Code) (mine sources : List ℕ) → length mine ≡ length own → (n : ℕ) → length own ≡ n → (executed : Found) → MeasuredAs executed (from_line (worst_from bounds (own ++ others) (mine ++ sources)) 0) → LinesMeasured block scope rest (worst_from bounds others sources) → (next : Way) (way : Worst) → IsWayAfter n rest next (worst_from bounds (own ++ others) (mine ++ sources)) way → MeasuredAs (best_pass next executed (best block scope rest)) way
pass_measured bounds block scope rest own others mine sources e n so executed x m Onward way is = subst (λ (w : Worst). MeasuredAs executed w) (sym is) x
pass_measured bounds block scope rest own others mine sources e n so executed x m Back way is = measured_passing (best block scope rest Back) way (m Back way is)
pass_measured bounds block scope rest own others mine sources e n so executed x m (Toward label) way is =
    measured_passing (best block scope rest (Toward label)) way
    (m (Toward label) way (is.0, is.1, is.2 ∙ (ap (λ k. from_line (worst_from bounds (own ++ others) (mine ++ sources)) (k + is.0)) (sym so) ∙ worst_after bounds own others mine sources is.0 e)))

-- as many sources as flat lines
pub step_sources_length : (line : ℕ) (step : Step) → length (step_sources line step) ≡ step_length step
step_sources_length line (Load negated operand) = refl
step_sources_length line (StoreStep storing target) = refl
step_sources_length line (Apply operator operand) = refl
step_sources_length line Negate = refl
step_sources_length line (Jump condition label) = refl
step_sources_length line (Return condition) = refl
step_sources_length line (Call condition instance arguments) = let a = marks_length line arguments in omega (arith, a)

pub sources_length : (lines : Lines) → length (sources_of lines) ≡ flat_length lines
sources_length End = refl
sources_length (Alone word rest) = sources_length rest
sources_length (Plain word line step rest) =
    let a : length (step_sources line step ++ sources_of rest) ≡ length (step_sources line step) + length (sources_of rest) = length-append (step_sources line step) (sources_of rest) in
    let b = step_sources_length line step in
    let c = sources_length rest in
    omega (arith, a, b, c)
sources_length (Nested word line operator operand inside close rest) =
    let a : length (sources_of inside ++ close ∷ sources_of rest) ≡ length (sources_of inside) + length (close ∷ sources_of rest) = length-append (sources_of inside) (close ∷ sources_of rest) in
    let b = sources_length inside in
    let c = sources_length rest in
    omega (arith, a, b, c)

-- the items of a parenthesis, and then the next line
pub nested_measured : (line close : ℕ) (inner : List Item) (rest : Found) (way : Worst) → MeasuredAs rest way → MeasuredAs (from_items (nested_items line close (Some inner)) rest) (one_more line (before_way inner (one_more close way)))
nested_measured line close inner None way m = absurd m
nested_measured line close inner (Some path) way m = (
  let a : length (inner ++ AtLine close ∷ []) ≡ length inner + 1 = length-append inner (AtLine close ∷ []) in
      let b : length ((AtLine line ∷ inner ++ AtLine close ∷ []) ++ path) ≡ length (AtLine line ∷ inner ++ AtLine close ∷ []) + length path = length-append (AtLine line ∷ inner ++ AtLine close ∷ []) path in
      let d = m.0 in
      omega (arith, a, b, d),
  ap (λ (ls : List ℕ). line ∷ (own_lines inner ++ close ∷ ls)) m.1
      ∙ ap (λ (ls : List ℕ). line ∷ ls) (sym (own_lines-append inner (AtLine close ∷ path)) ∙ ap own_lines (sym (append_assoc inner (AtLine close ∷ []) path))),
)

-- past a label alone
pub way_alone : (word : Word) (rest : Lines) (edges : List Worst) (next : Way) (way : Worst) → IsWayOf (Alone word rest) next edges way → IsWayOf rest (arriving_way (Some word) next) edges way
way_alone word rest edges Onward way is = is
way_alone word rest edges Back way is = is
way_alone word rest edges (Toward label) way is = step (carries (Some word) label) is.1
  where
    step : (b : Bool) → (if b then Some 0 else lines_ahead rest label) ≡ Some is.0 → IsWayOf rest (elim b as (λ x. Way) [ true ↦ Onward | false ↦ Toward label ]) edges way
    step true e = is.2 ∙ ap (from_line edges) (one_number (Some is.0) is.0 0 refl (sym e))
    step false e = (is.0, e, is.2)

-- the lines left
pub lines_measured : (bounds : List ℕ) (block : Name → Found) (scope : Scope) → BlocksMeasured bounds scope.before block → (lines : Lines) → NestsSimply lines → (code : List Code) → IsLowered scope lines code → LinesMeasured block scope lines (worst_from bounds code (sources_of lines))
lines_measured bounds block scope known End simple code lowered Onward way is =
    subst (λ (w : Worst). MeasuredAs (Some []) w) (sym (is ∙ ap (λ (c : List Code). from_line (worst_from bounds c []) 0) lowered)) (refl, refl)
lines_measured bounds block scope known End simple code lowered Back way is = subst (λ (w : Worst). MeasuredAs (Some []) w) (sym is) (refl, refl)
lines_measured bounds block scope known End simple code lowered (Toward label) way is = absurd (let e = is.1 in cc)
lines_measured bounds block scope known (Alone word rest) simple code lowered next way is =
    lines_measured bounds block scope known rest simple code lowered (arriving_way (Some word) next) way (way_alone word rest (worst_from bounds code (sources_of rest)) next way is)
lines_measured bounds block scope known (Plain word line step rest) simple code lowered next way is =
    let rest_measured = lines_measured bounds block scope known rest simple lowered.others lowered.rest in
    let a = step_lowered_length scope rest step lowered.own lowered.step in
    let b = step_sources_length line step in
    pass_measured bounds block scope rest lowered.own lowered.others (step_sources line step) (sources_of rest) (omega (arith, a, b)) (step_length step) a (best_step block scope line step (best block scope rest))
    (step_measured bounds block scope known line step rest lowered.own lowered.others (sources_of rest) lowered.step rest_measured) rest_measured (arriving_way word next) way
    (way_arrives (Plain word line step rest) rest word (step_length step) (worst_from bounds (lowered.own ++ lowered.others) (step_sources line step ++ sources_of rest)) (λ label. refl) next way
    (subst (λ (c : List Code). IsWayOf (Plain word line step rest) next (worst_from bounds c (step_sources line step ++ sources_of rest)) way) lowered.whole is))
lines_measured bounds block scope known (Nested word line operator operand inside close rest) simple code lowered next way is =
    let rest_measured = lines_measured bounds block scope known rest simple.1 lowered.others lowered.rest in
    let own : List Code = lowered.opening ∷ lowered.inner ++ Close operator ∷ [] in
    let mine : List ℕ = line ∷ sources_of inside ++ close ∷ [] in
    let a = lowered_length scope inside lowered.inner lowered.inside in
    let b = sources_length inside in
    let c : length (lowered.inner ++ Close operator ∷ []) ≡ length lowered.inner + 1 = length-append lowered.inner (Close operator ∷ []) in
    let d : length (sources_of inside ++ close ∷ []) ≡ length (sources_of inside) + 1 = length-append (sources_of inside) (close ∷ []) in
    let coded : code ≡ own ++ lowered.others = lowered.whole ∙ regrouped lowered.opening lowered.inner operator lowered.others in
    let sourced : line ∷ sources_of inside ++ close ∷ sources_of rest ≡ mine ++ sources_of rest = ap (λ (ns : List ℕ). line ∷ ns) (sym (append_assoc (sources_of inside) (close ∷ []) (sources_of rest))) in
    let i = inside_measured bounds block scope inside simple.0 lowered.inner lowered.inside in
    let left : Worst = from_line (worst_from bounds lowered.others (sources_of rest)) 0 in
    let first : from_line (worst_from bounds (own ++ lowered.others) (mine ++ sources_of rest)) 0 ≡ one_more line (before_way i.path (one_more close left)) =
    ap (λ (ns : List Code). from_line (worst_from bounds ns (mine ++ sources_of rest)) 0) (sym (regrouped lowered.opening lowered.inner operator lowered.others))
    ∙ (ap (λ (ns : List ℕ). from_line (worst_from bounds (lowered.opening ∷ lowered.inner ++ Close operator ∷ lowered.others) ns) 0) (sym sourced)
    ∙ (opening_measured bounds scope line (worst_from bounds (lowered.inner ++ Close operator ∷ lowered.others) (sources_of inside ++ close ∷ sources_of rest)) operand lowered.opening lowered.opens
    ∙ ap (one_more line) (i.way (Close operator ∷ lowered.others) (close ∷ sources_of rest))))
    in
    let executed : Found = from_items (nested_items line close (best block scope inside Onward)) (best block scope rest Onward) in
    let measured : MeasuredAs executed (from_line (worst_from bounds (own ++ lowered.others) (mine ++ sources_of rest)) 0) =
    subst (λ (w : Worst). MeasuredAs executed w) (sym first)
    (subst (λ (f : Found). MeasuredAs (from_items (nested_items line close f) (best block scope rest Onward)) (one_more line (before_way i.path (one_more close left)))) (sym i.is)
    (nested_measured line close i.path (best block scope rest Onward) left (rest_measured Onward left refl)))
    in
    pass_measured bounds block scope rest own lowered.others mine (sources_of rest) (omega (arith, a, b, c, d)) (2 + flat_length inside) (omega (arith, a, b, c, d)) executed measured rest_measured (arriving_way word next) way
    (way_arrives (Nested word line operator operand inside close rest) rest word (2 + flat_length inside) (worst_from bounds (own ++ lowered.others) (mine ++ sources_of rest)) (λ label. refl) next way
    (subst (λ (ns : List ℕ). IsWayOf (Nested word line operator operand inside close rest) next (worst_from bounds (own ++ lowered.others) ns) way) sourced
    (subst (λ (ns : List Code). IsWayOf (Nested word line operator operand inside close rest) next (worst_from bounds ns (line ∷ sources_of inside ++ close ∷ sources_of rest)) way) coded is)))
