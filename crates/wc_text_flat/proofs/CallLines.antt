-- Flat calls follow the calls that they represent.
use Rattle.wc_model.proofs.Common.{◌≡◌, ℕ, ◌+◌, Bool, true, false, not, List, [], ◌∷◌, ◌++◌, map, length, Option, Some, None, Result, Ok, Err, ℤ, append_assoc, refl, sym, ap, subst, ◌∙◌, arith, if◌then◌else◌}
use Rattle.std.proofs.lemmas.List.{length-append, length-map}
use Rattle.std.specs.Option.{option_map}
use Rattle.wc_text_flat.proofs.BlockLines.{CalledAs, block_follows, fields_at}
use Rattle.wc_text_flat.proofs.Counts.{counted_twice, counted_none, passed_over}
use Rattle.wc_text_flat.proofs.InstancePlaces.{path_from, path_number, no_direct, instance_number}
use Rattle.wc_text_flat.proofs.Lines.{operand_number, operand_read, truth_operand, WritesAs, write_follows, target_follows}
use Rattle.wc_text_flat.proofs.Sides.{Sides, flat, IsBased, BodyFollows, AreAlike, state_of, then_counted, OnwardFollows, by_choice}
use Rattle.wc_text_flat.proofs.Values.{value_number, ReadsAs, AnswersAs, acts_follow}
use Rattle.wc_text_flat.specs.{AreContents, State, Skips, LineResult, Ran, goes_on, with_all, writes, turns, returns, line_runs, followed, runs, Operand, Number, At, IsOperand, argument_line, IsArgument, IsOutput, AreEach, AreArguments, AreOutputs, IsCallLowered, IsUnitBody, IsBodyOf, first_place, block_called, given, acts}
use Rattle.wc_laws_language.proofs.Longest.{trace_length}
use Rattle.wc_model.specs.Definitions.{standard_called, VariableType, Elementary, Standard, Block, Member, members_of, is_block, block_named, same_name, place_number, slot_kinds, Outcome, Done, Stuck, Effect, Goes, Fails, Running, value_of, from_store, input_kind, argument_term, assigned_input, assigned_one, assigned, given_one, given_out, written_to, call_trace, body_outcome, made, called_type, call_effect, step_effect, Name, Reason, NoSuchPlace, Scope, type_of, writable_place, within, Location, Direct, Path, Content, Store, written, variable_places, block_places, unit_places, program_frame, At as AtLine, StandardBody, Called, Assignment, goes_in, inputs_of, outputs_of, Term, Field, Call, ProgramUnit}
use Rattle.wc_model.specs.Language.Meaning as meaning
use Rattle.wc_model.specs.declared.code.Code.{Code}
use Rattle.wc_model.specs.declared.code.Code.TheVariants.{Call as CallLine, Body}
use Rattle.wc_model.specs.declared.kind.Kind.TheVariants.{Bool as KindBool, Dint as KindDint, Time as KindTime}
use Rattle.wc_model.specs.declared.operator.Condition.{Condition}
use Rattle.wc_model.specs.declared.place.Place.{Place}
use Rattle.wc_model.specs.declared.value.Value.{Value}
use Rattle.wc_laws_language.proofs.CallSteps.{IsInstance, type_of-found}
use Rattle.wc_laws_language.proofs.Places.{Some-same, places_of, block_places-found}

-- an argument as its input's kind wants it
pub argument_operand : (scope : Scope) (type : VariableType) (term : Term) (operand : Operand) → IsOperand scope term operand → IsOperand scope (argument_term type term) operand
argument_operand scope (Elementary KindBool) term operand is = truth_operand scope term operand is
argument_operand scope (Elementary KindDint) term operand is = is
argument_operand scope (Elementary KindTime) term operand is = is
argument_operand scope (Standard block) term operand is = is
argument_operand scope (Block name) term operand is = is

-- one argument
pub argument_follows : (w : Sides) → AreAlike w → (result : Option Value) (put_by : List ℤ) (store : Store) (numbers : List ℤ) → AreContents w.frame store numbers → (members : List Member) (instance : Name) (argument : Assignment) (line : Code) → IsArgument w.here.scope instance argument line → WritesAs w (state_of result put_by numbers) (assigned_one w.here store members instance argument) (line_runs (flat w) (state_of result put_by numbers) line)
argument_follows w alike result put_by store numbers contents members instance argument line is = by_type (input_kind members argument.formal)
  where
    state : State
    state = state_of result put_by numbers

    target : Place
    target = is.1

    runs_so : (o : Operand) → line_runs (flat w) state (argument_line o target) ≡ given (operand_number w numbers o) (λ n. writes (flat w) state target n)
    runs_so (Number n) = refl
    runs_so (At place) = refl

    written_there : (value : Value) → WritesAs w state (written store (Path (w.here.instance ++ instance ∷ argument.formal ∷ [])) value) (writes (flat w) state target (value_number value))
    written_there value = write_follows w store numbers contents state refl (Path (w.here.instance ++ instance ∷ argument.formal ∷ [])) target (alike.based (Path (instance ∷ argument.formal ∷ [])) target.0 is.3) value

    by_value : (r : Result Value Reason) → ReadsAs r (operand_number w numbers is.0) → WritesAs w state (elim r as (λ x. Result Store Reason) [ Ok value ↦ written store (Path (w.here.instance ++ instance ∷ argument.formal ∷ [])) value | Err reason ↦ Err reason ]) (line_runs (flat w) state line)
    by_value (Err reason) e = tt
    by_value (Ok value) e =
        subst (λ (o : Option LineResult). WritesAs w state (written store (Path (w.here.instance ++ instance ∷ argument.formal ∷ [])) value) o)
        (sym (ap (line_runs (flat w) state) is.4 ∙ (runs_so is.0 ∙ ap (λ (x : Option ℤ). given x (λ n. writes (flat w) state target n)) e)))
        (written_there value)

    by_type : (t : Option VariableType) → WritesAs w state (elim t as (λ x. Result Store Reason) [ Some type ↦ assigned_input w.here store instance argument type | None ↦ Err NoSuchPlace ]) (line_runs (flat w) state line)
    by_type None = tt
    by_type (Some type) = by_value (value_of w.here store (argument_term type argument.actual)) (operand_read w alike store numbers contents (argument_term type argument.actual) is.0 (argument_operand w.here.scope type argument.actual is.0 is.2))

-- lines after which the result is the same, with n steps, follow what they leave of the store
abbrev pub AssignsAs : Sides → List Code → ℕ → Option Value → List ℤ → List ℤ → Result Store Reason → Type 0
AssignsAs w code count result put_by numbers (Ok new) =
    (after : List ℤ) × AreContents w.frame new after
    × ((others : List Code) → runs (flat w) (code ++ others) (Skips 0) (state_of result put_by numbers) ≡ then_counted count (runs (flat w) others (Skips 0) (state_of result put_by after)))
AssignsAs w code count result put_by numbers (Err reason) = Unit {0}

-- one line more before lines that follow
pub moved_on : (w : Sides) (result : Option Value) (put_by numbers : List ℤ) (line : Code) (lines : List Code) (count all : ℕ) → 1 + count ≡ all → (one : Result Store Reason) (rest : Store → Result Store Reason) → WritesAs w (state_of result put_by numbers) one (line_runs (flat w) (state_of result put_by numbers) line) → ((new : Store) (after : List ℤ) → AreContents w.frame new after → AssignsAs w lines count result put_by after (rest new)) → AssignsAs w (line ∷ lines) all result put_by numbers (elim one as (λ x. Result Store Reason) [ Ok new ↦ rest new | Err reason ↦ Err reason ])
moved_on w result put_by numbers line lines count all more (Err reason) rest h onward = tt
moved_on w result put_by numbers line lines count all more (Ok new) rest h onward = first h.0 h.2 (rest new) (onward new h.0 h.1)
  where
    first : (after : List ℤ) → line_runs (flat w) (state_of result put_by numbers) line ≡ goes_on (state_of result put_by after) → (r : Result Store Reason) → AssignsAs w lines count result put_by after r → AssignsAs w (line ∷ lines) all result put_by numbers r
    first after e (Err reason) h = tt
    first after e (Ok last) h = (
      h.0,
      h.1,
      λ others. ap (λ (m : Option LineResult). followed m (runs (flat w) (lines ++ others))) e
          ∙ (ap (then_counted 1) (h.2 others)
          ∙ (counted_twice 1 count (runs (flat w) others (Skips 0) (state_of result put_by h.0))
          ∙ ap (λ n. then_counted n (runs (flat w) others (Skips 0) (state_of result put_by h.0))) more)),
    )

-- nothing is moved by no lines
pub none_moved : (w : Sides) (result : Option Value) (put_by : List ℤ) (store : Store) (numbers : List ℤ) → AreContents w.frame store numbers → AssignsAs w [] 0 result put_by numbers (Ok store)
none_moved w result put_by store numbers contents = (numbers, contents, λ others. sym (counted_none (runs (flat w) others (Skips 0) (state_of result put_by numbers))))

-- all arguments
pub arguments_follow : (w : Sides) → AreAlike w → (result : Option Value) (put_by : List ℤ) (members : List Member) (instance : Name) (arguments : List Assignment) (code : List Code) → AreArguments w.here.scope instance arguments code → (store : Store) (numbers : List ℤ) → AreContents w.frame store numbers → AssignsAs w code (length arguments) result put_by numbers (assigned w.here members instance arguments store)
arguments_follow w alike result put_by members instance [] [] are store numbers contents = none_moved w result put_by store numbers contents
arguments_follow w alike result put_by members instance [] (line ∷ lines) are store numbers contents = absurd are
arguments_follow w alike result put_by members instance (argument ∷ arguments) [] are store numbers contents = absurd are
arguments_follow w alike result put_by members instance (argument ∷ arguments) (line ∷ lines) are store numbers contents =
    moved_on w result put_by numbers line lines (length arguments) (length (argument ∷ arguments)) (omega arith) (assigned_one w.here store members instance argument) (assigned w.here members instance arguments)
    (argument_follows w alike result put_by store numbers contents members instance argument line are.0)
    (λ new after held. arguments_follow w alike result put_by members instance arguments lines are.1 new after held)

-- one output
pub output_follows : (w : Sides) → AreAlike w → (result : Option Value) (put_by : List ℤ) (store : Store) (numbers : List ℤ) → AreContents w.frame store numbers → (instance : Name) (output : Assignment) (line : Code) → IsOutput w.here.scope instance output line → WritesAs w (state_of result put_by numbers) (given_one w.here store instance output) (line_runs (flat w) (state_of result put_by numbers) line)
output_follows w alike result put_by store numbers contents instance output line is =
    by_value (value_of w.here store (Field instance output.formal)) (operand_read w alike store numbers contents (Field instance output.formal) is.0 is.2)
  where
    state : State
    state = state_of result put_by numbers

    target : Place
    target = is.1

    runs_so : (o : Operand) → line_runs (flat w) state (argument_line o target) ≡ given (operand_number w numbers o) (λ n. writes (flat w) state target n)
    runs_so (Number n) = refl
    runs_so (At place) = refl

    by_value : (r : Result Value Reason) → ReadsAs r (operand_number w numbers is.0) → WritesAs w state (elim r as (λ x. Result Store Reason) [ Ok value ↦ written_to w.here store output.actual value | Err reason ↦ Err reason ]) (line_runs (flat w) state line)
    by_value (Err reason) e = tt
    by_value (Ok value) e =
        subst (λ (o : Option LineResult). WritesAs w state (written_to w.here store output.actual value) o)
        (sym (ap (line_runs (flat w) state) is.4 ∙ (runs_so is.0 ∙ ap (λ (x : Option ℤ). given x (λ n. writes (flat w) state target n)) e)))
        (target_follows w alike store numbers contents state refl (writable_place w.here.scope output.actual) target is.3 value)

-- all outputs
pub outputs_follow : (w : Sides) → AreAlike w → (result : Option Value) (put_by : List ℤ) (instance : Name) (outputs : List Assignment) (code : List Code) → AreOutputs w.here.scope instance outputs code → (store : Store) (numbers : List ℤ) → AreContents w.frame store numbers → AssignsAs w code (length outputs) result put_by numbers (given_out w.here instance outputs store)
outputs_follow w alike result put_by instance [] [] are store numbers contents = none_moved w result put_by store numbers contents
outputs_follow w alike result put_by instance [] (line ∷ lines) are store numbers contents = absurd are
outputs_follow w alike result put_by instance (output ∷ outputs) [] are store numbers contents = absurd are
outputs_follow w alike result put_by instance (output ∷ outputs) (line ∷ lines) are store numbers contents =
    moved_on w result put_by numbers line lines (length outputs) (length (output ∷ outputs)) (omega arith) (given_one w.here store instance output) (given_out w.here instance outputs)
    (output_follows w alike result put_by store numbers contents instance output line are.0)
    (λ new after held. outputs_follow w alike result put_by instance outputs lines are.1 new after held)

-- a line follows the body of a block, and the result is the caller's
abbrev pub BodyLineFollows : Sides → Code → Option Value → List ℤ → List ℤ → Outcome → Type 0
BodyLineFollows w line result put_by numbers (Done inner new trace) =
    (after : List ℤ) × AreContents w.frame new after
    × ((others : List Code) → runs (flat w) (line ∷ others) (Skips 0) (state_of result put_by numbers) ≡ then_counted (length trace) (runs (flat w) others (Skips 0) (state_of result put_by after)))
BodyLineFollows w line result put_by numbers (Stuck reason) = Unit {0}

-- the body of a standard block
pub standard_follows : (w : Sides) → AreAlike w → (result : Option Value) (put_by : List ℤ) (store : Store) (numbers : List ℤ) → AreContents w.frame store numbers → (instance : Name) (block : Rattle.wc_model.specs.declared.block.StandardBlock.StandardBlock) → IsInstance w.here.scope instance (Standard block) → (line : Code) → IsBodyOf w.here.scope instance (Some (Standard block)) line → BodyLineFollows w line result put_by numbers (body_outcome w.here (Standard block) instance store)
standard_follows w alike result put_by store numbers contents instance block is line lowered =
    step (standard_called block w.here.now store (w.here.instance ++ instance ∷ []))
    (block_follows w.frame block w.here.now store numbers contents (w.here.instance ++ instance ∷ []) (w.base + lowered.0.0) (fields_at w.frame w.here.scope w.here.instance w.base alike.based instance is.variable is.found block is.typed lowered.0.0 lowered.1))
  where
    step : (r : Result Store Reason) → CalledAs w.frame r (block_called block w.here.now (slot_kinds w.frame) numbers (w.base + lowered.0.0)) → BodyLineFollows w line result put_by numbers (elim r as (λ x. Outcome) [ Ok new ↦ Done None new (StandardBody ∷ []) | Err reason ↦ Stuck reason ])
    step (Err reason) h = tt
    step (Ok new) h = (
      h.0,
      h.1,
      λ others. ap (λ (l : Code). runs (flat w) (l ∷ others) (Skips 0) (state_of result put_by numbers)) lowered.2
          ∙ ap (λ (o : Option (List ℤ)). followed (given o (λ ns. goes_on (with_all (state_of result put_by numbers) ns))) (runs (flat w) others)) h.2,
    )

-- what is found as a block is one
pub found_is_block : (before : List ProgramUnit) (name : Name) (unit : ProgramUnit) (earlier : List ProgramUnit) → block_named before name ≡ Some (unit, earlier) → is_block unit ≡ true
found_is_block [] name unit earlier e = cc
found_is_block (u ∷ before) name unit earlier e = step (same_name u.name.name name) e (λ f. found_is_block before name unit earlier f)
  where
    this : ProgramUnit × List ProgramUnit
    this = (u, before)

    that : ProgramUnit × List ProgramUnit
    that = (unit, earlier)

    block : (b : Bool) → is_block u ≡ b → (if b then Some this else None) ≡ Some that → is_block unit ≡ true
    block true is f = ap (λ (p : ProgramUnit × List ProgramUnit). is_block p.0) (Some-same this that f) ∙ is
    block false is f = cc

    step : (b : Bool) → (elim b as (λ x. Option (ProgramUnit × List ProgramUnit)) [ true ↦ (if is_block u then Some this else None) | false ↦ block_named before name ]) ≡ Some that → (block_named before name ≡ Some that → is_block unit ≡ true) → is_block unit ≡ true
    step true f onward = block (is_block u) refl f
    step false f onward = onward f

-- the frame of an instance of a block of the text has its base
pub instance_based : (w : Sides) → AreAlike w → (instance name : Name) → IsInstance w.here.scope instance (Block name) → (at : ℕ) → first_place w.here.scope instance ≡ Some at → (unit : ProgramUnit) (earlier : List ProgramUnit) → block_named w.here.scope.before name ≡ Some (unit, earlier) → IsBased w.frame (record { before = earlier; unit = unit }) (w.here.instance ++ instance ∷ []) (w.base + at)
instance_based w alike instance name is at first unit earlier found = at_place
  where
    paths : List (Location × Content)
    paths = map (λ p. (Path p.0, p.1)) (unit_places earlier unit)

    of_block : (b : Bool) → b ≡ true → (place : Location) (k : ℕ) → place_number (if b then paths else program_frame earlier unit) place ≡ Some k → place_number paths place ≡ Some k
    of_block true is place k e = e
    of_block false is place k e = cc

    places : places_of w.here.scope.before is.variable ≡ unit_places earlier unit
    places = ap (λ (t : Option VariableType). variable_places (block_places w.here.scope.before) t is.variable.initial) is.typed ∙ block_places-found w.here.scope.before name unit earlier found

    by_place : (place : Location) (k : ℕ) → place_number paths place ≡ Some k → place_number w.frame (within (w.here.instance ++ instance ∷ []) place) ≡ Some (w.base + at + k)
    by_place (Direct v) k e = absurd (let none : None ≡ Some k = sym (no_direct (unit_places earlier unit) 0 v) ∙ e in cc)
    by_place (Path path) k e =
        let own : path_from 0 (places_of w.here.scope.before is.variable) path ≡ Some k = ap (λ (ps : List (List Name × Content)). path_from 0 ps path) places ∙ (sym (path_number (unit_places earlier unit) 0 path) ∙ e) in
        ap (λ (p : List Name). place_number w.frame (Path p)) (append_assoc w.here.instance (instance ∷ []) path)
        ∙ (alike.based (Path (instance ∷ path)) (at + k) (instance_number w.here.scope instance is.variable is.found at first path k own)
        ∙ ap Some (let a : w.base + (at + k) ≡ w.base + at + k = omega arith in a))

    at_place : IsBased w.frame (record { before = earlier; unit = unit }) (w.here.instance ++ instance ∷ []) (w.base + at)
    at_place place k e = by_place place k (of_block (is_block unit) (found_is_block w.here.scope.before name unit earlier found) place k e)

-- the body of a block of the text
pub unit_follows : (w : Sides) → AreAlike w → (result : Option Value) (put_by : List ℤ) (store : Store) (numbers : List ℤ) → AreContents w.frame store numbers → (instance name : Name) → IsInstance w.here.scope instance (Block name) → (line : Code) → IsBodyOf w.here.scope instance (Some (Block name)) line → BodyLineFollows w line result put_by numbers (body_outcome w.here (Block name) instance store)
unit_follows w alike result put_by store numbers contents instance name is line lowered = by_block (block_named w.here.scope.before name) refl lowered
  where
    names : List Name
    names = w.here.instance ++ instance ∷ []

    by_outcome : (earlier : List ProgramUnit) (at : Place) → line ≡ Body (length earlier) at → (o : Outcome) → BodyFollows w.frame o (w.calls (length earlier) (w.base + at.0) numbers) → BodyLineFollows w line result put_by numbers (elim o as (λ x. Outcome) [ Done inner new trace ↦ Done None new (map Called trace) | Stuck reason ↦ Stuck reason ])
    by_outcome earlier at is_line (Stuck reason) h = tt
    by_outcome earlier at is_line (Done inner new trace) h = (
      h.0.numbers,
      h.3,
      λ others. ap (λ (l : Code). runs (flat w) (l ∷ others) (Skips 0) (state_of result put_by numbers)) is_line
          ∙ (ap (λ (o : Option Ran). followed (given o (λ ran. returns (state_of result put_by numbers) ran)) (runs (flat w) others)) h.1
          ∙ ap (λ n. then_counted n (runs (flat w) others (Skips 0) (state_of result put_by h.0.numbers))) (h.4 ∙ sym (length-map trace Called))),
    )

    by_block : (b : Option (ProgramUnit × List ProgramUnit)) → block_named w.here.scope.before name ≡ b → IsUnitBody w.here.scope instance b line → BodyLineFollows w line result put_by numbers (body_outcome w.here (Block name) instance store)
    by_block None e body = absurd body
    by_block (Some found) e body =
        by_outcome found.1 body.0 body.2 (w.here.calls name names store)
        (alike.calls_follow name found.0 found.1 e names (w.base + body.0.0) (instance_based w alike instance name is body.0.0 body.1 found.0 found.1 e) store numbers contents)

-- the body of whatever is called
pub body_line_follows : (w : Sides) → AreAlike w → (result : Option Value) (put_by : List ℤ) (store : Store) (numbers : List ℤ) → AreContents w.frame store numbers → (instance : Name) (type : VariableType) → type_of w.here.scope instance ≡ Some type → (line : Code) → IsBodyOf w.here.scope instance (Some type) line → BodyLineFollows w line result put_by numbers (body_outcome w.here type instance store)
body_line_follows w alike result put_by store numbers contents instance (Elementary kind) e line lowered = absurd lowered
body_line_follows w alike result put_by store numbers contents instance (Standard block) e line lowered = standard_follows w alike result put_by store numbers contents instance block (type_of-found w.here.scope instance (Standard block) e) line lowered
body_line_follows w alike result put_by store numbers contents instance (Block name) e line lowered = unit_follows w alike result put_by store numbers contents instance name (type_of-found w.here.scope instance (Block name) e) line lowered

-- each has one line
pub each_length : (IsOne : Assignment → Code → Type 0) (items : List Assignment) (lines : List Code) → AreEach IsOne items lines → length lines ≡ length items
each_length IsOne [] [] are = refl
each_length IsOne [] (line ∷ lines) are = absurd are
each_length IsOne (item ∷ items) [] are = absurd are
each_length IsOne (item ∷ items) (line ∷ lines) are = let e = each_length IsOne items lines are.1 in omega (arith, e)

-- inputs and outputs are all of a call's list
pub all_parts : (arguments : List Assignment) → length (inputs_of arguments) + length (outputs_of arguments) ≡ length arguments
all_parts [] = refl
all_parts (argument ∷ arguments) = step (goes_in argument) (all_parts arguments)
  where
    step : (b : Bool) → length (inputs_of arguments) + length (outputs_of arguments) ≡ length arguments → length (if b then argument ∷ inputs_of arguments else inputs_of arguments) + length (if not b then argument ∷ outputs_of arguments else outputs_of arguments) ≡ length (argument ∷ arguments)
    step true e = omega (arith, e)
    step false e = omega (arith, e)

-- the number of flat lines after a call's own
pub lowered_after : (scope : Scope) (condition : Condition) (instance : Name) (arguments : List Assignment) (own : List Code) (lowered : IsCallLowered scope condition instance arguments own) → length (lowered.assigned ++ lowered.body ∷ lowered.given) ≡ 1 + length arguments
lowered_after scope condition instance arguments own lowered =
    let a = length-append lowered.assigned (lowered.body ∷ lowered.given) in
    let b = each_length (IsArgument scope instance) (inputs_of arguments) lowered.assigned lowered.inputs in
    let c = each_length (IsOutput scope instance) (outputs_of arguments) lowered.given lowered.outputs in
    let d = all_parts arguments in
    let e : length (lowered.body ∷ lowered.given) ≡ 1 + length lowered.given = omega arith in
    omega (arith, a, b, c, d, e)

-- what a call that is made leaves: its line, its inputs, its block's body, its outputs
pub made_follows : (w : Sides) (own_line body : Code) (lines given : List Code) (number : ℕ) (instance : Name) (arguments : List Assignment) (result : Option Value) (put_by numbers : List ℤ) (condition_true : line_runs (flat w) (state_of result put_by numbers) own_line ≡ goes_on (state_of result put_by numbers)) (after : List ℤ) → ((others : List Code) → runs (flat w) (lines ++ others) (Skips 0) (state_of result put_by numbers) ≡ then_counted (length (inputs_of arguments)) (runs (flat w) others (Skips 0) (state_of result put_by after))) → (o : Outcome) → BodyLineFollows w body result put_by after o → ((new : Store) (last : List ℤ) → AreContents w.frame new last → AssignsAs w given (length (outputs_of arguments)) result put_by last (given_out w.here instance (outputs_of arguments) new)) → OnwardFollows w (own_line ∷ lines ++ body ∷ given) put_by (state_of result put_by numbers) (made w.here instance o number arguments result)
made_follows w own_line body lines given number instance arguments result put_by numbers acting after assigned_so (Stuck reason) h outputs = tt
made_follows w own_line body lines given number instance arguments result put_by numbers acting after assigned_so (Done inner new trace) h outputs =
    by_store (given_out w.here instance (outputs_of arguments) new) (outputs new h.0 h.1)
  where
    all : 1 + (length (inputs_of arguments) + (length trace + length (outputs_of arguments))) ≡ length (call_trace number arguments trace)
    all = let a = trace_length number arguments trace in omega (arith, a)

    by_store : (r : Result Store Reason) → AssignsAs w given (length (outputs_of arguments)) result put_by h.0 r → OnwardFollows w (own_line ∷ lines ++ body ∷ given) put_by (state_of result put_by numbers) (from_store r (λ last. Goes (Running result) last (call_trace number arguments trace)))
    by_store (Err reason) k = tt
    by_store (Ok last) k = (
      k.0,
      k.1,
      λ others. ap (λ (m : Option LineResult). followed m (runs (flat w) ((lines ++ body ∷ given) ++ others))) acting
          ∙ (ap (λ (code : List Code). then_counted 1 (runs (flat w) code (Skips 0) (state_of result put_by numbers))) (append_assoc lines (body ∷ given) others)
          ∙ (ap (then_counted 1) (assigned_so (body ∷ given ++ others))
          ∙ (ap (λ (o : Option Ran). then_counted 1 (then_counted (length (inputs_of arguments)) o)) (h.2 (given ++ others))
          ∙ (ap (λ (o : Option Ran). then_counted 1 (then_counted (length (inputs_of arguments)) (then_counted (length trace) o))) (k.2 others)
          ∙ (ap (λ (o : Option Ran). then_counted 1 (then_counted (length (inputs_of arguments)) o)) (counted_twice (length trace) (length (outputs_of arguments)) (left others))
          ∙ (ap (then_counted 1) (counted_twice (length (inputs_of arguments)) (length trace + length (outputs_of arguments)) (left others))
          ∙ (counted_twice 1 (length (inputs_of arguments) + (length trace + length (outputs_of arguments))) (left others)
          ∙ ap (λ n. then_counted n (left others)) all))))))),
    )
      where
        left : List Code → Option Ran
        left others = runs (flat w) others (Skips 0) (state_of result put_by k.0)

-- a call that is made
pub acting_follows : (w : Sides) → AreAlike w → (number : ℕ) (result : Option Value) (put_by : List ℤ) (store : Store) (numbers : List ℤ) → AreContents w.frame store numbers → (condition : Condition) (instance : Name) (arguments : List Assignment) (own : List Code) (lowered : IsCallLowered w.here.scope condition instance arguments own) → acts condition (option_map value_number result) ≡ Some true → OnwardFollows w (CallLine condition (1 + length arguments) ∷ lowered.assigned ++ lowered.body ∷ lowered.given) put_by (state_of result put_by numbers) (call_effect w.here number instance arguments result store)
acting_follows w alike number result put_by store numbers contents condition instance arguments own lowered acting = by_type (type_of w.here.scope instance) refl lowered.called
  where
    own_line : Code
    own_line = CallLine condition (1 + length arguments)

    onward : line_runs (flat w) (state_of result put_by numbers) own_line ≡ goes_on (state_of result put_by numbers)
    onward = ap (λ (b : Option Bool). turns (state_of result put_by numbers) b (Skips 0) (Skips (1 + length arguments))) acting

    by_store : (type : VariableType) → type_of w.here.scope instance ≡ Some type → IsBodyOf w.here.scope instance (Some type) lowered.body → (r : Result Store Reason) → AssignsAs w lowered.assigned (length (inputs_of arguments)) result put_by numbers r → OnwardFollows w (own_line ∷ lowered.assigned ++ lowered.body ∷ lowered.given) put_by (state_of result put_by numbers) (from_store r (λ new. made w.here instance (body_outcome w.here type instance new) number arguments result))
    by_store type e is (Err reason) h = tt
    by_store type e is (Ok new) h =
        made_follows w own_line lowered.body lowered.assigned lowered.given number instance arguments result put_by numbers onward h.0 h.2 (body_outcome w.here type instance new)
        (body_line_follows w alike result put_by new h.0 h.1 instance type e lowered.body is)
        (λ last after held. outputs_follow w alike result put_by instance (outputs_of arguments) lowered.given lowered.outputs last after held)

    by_type : (t : Option VariableType) → type_of w.here.scope instance ≡ t → IsBodyOf w.here.scope instance t lowered.body → OnwardFollows w (own_line ∷ lowered.assigned ++ lowered.body ∷ lowered.given) put_by (state_of result put_by numbers) (elim t as (λ x. Effect) [ Some type ↦ called_type w.here type number instance arguments result store | None ↦ Fails NoSuchPlace ])
    by_type None e is = absurd is
    by_type (Some type) e is = by_store type e is (assigned w.here (members_of w.here.scope.before type) instance (inputs_of arguments) store) (arguments_follow w alike result put_by (members_of w.here.scope.before type) instance (inputs_of arguments) lowered.assigned lowered.inputs store numbers contents)

-- an answer that is given
pub answer_given : (r : Result Bool Reason) (o : Option Bool) (b : Bool) → AnswersAs r o → r ≡ Ok b → o ≡ Some b
answer_given (Ok c) o b h e = let same : c ≡ b = cc in h ∙ ap Some same
answer_given (Err reason) o b h e = cc

-- a call, made or not
pub call_follows : (w : Sides) → AreAlike w → (number : ℕ) (result : Option Value) (put_by : List ℤ) (store : Store) (numbers : List ℤ) → AreContents w.frame store numbers → (condition : Condition) (instance : Name) (arguments : List Assignment) (own : List Code) (lowered : IsCallLowered w.here.scope condition instance arguments own) → OnwardFollows w (CallLine condition (1 + length arguments) ∷ lowered.assigned ++ lowered.body ∷ lowered.given) put_by (state_of result put_by numbers) (step_effect w.here number (Call condition instance arguments) result store)
call_follows w alike number result put_by store numbers contents condition instance arguments own lowered =
    by_choice (OnwardFollows w (CallLine condition (1 + length arguments) ∷ lowered.assigned ++ lowered.body ∷ lowered.given) put_by (state_of result put_by numbers)) (λ reason. tt)
    (meaning.acts condition result) (call_effect w.here number instance arguments result store) (Goes (Running result) store (AtLine number ∷ []))
    (λ e. acting_follows w alike number result put_by store numbers contents condition instance arguments own lowered (answer_given (meaning.acts condition result) (acts condition (option_map value_number result)) true (acts_follow condition result) e))
    (λ e. (numbers, contents, passing (answer_given (meaning.acts condition result) (acts condition (option_map value_number result)) false (acts_follow condition result) e)))
  where
    following : List Code
    following = lowered.assigned ++ lowered.body ∷ lowered.given

    passing : acts condition (option_map value_number result) ≡ Some false → (others : List Code) → runs (flat w) ((CallLine condition (1 + length arguments) ∷ following) ++ others) (Skips 0) (state_of result put_by numbers) ≡ then_counted 1 (runs (flat w) others (Skips 0) (state_of result put_by numbers))
    passing e others =
        ap (λ (b : Option Bool). followed (turns (state_of result put_by numbers) b (Skips 0) (Skips (1 + length arguments))) (runs (flat w) (following ++ others))) e
        ∙ ap (then_counted 1) (ap (λ n. runs (flat w) (following ++ others) (Skips n) (state_of result put_by numbers)) so_many ∙ passed_over (flat w) following others 0 (state_of result put_by numbers))
      where
        so_many : 1 + length arguments ≡ length following + 0
        so_many = let a = lowered_after w.here.scope condition instance arguments own lowered in omega (arith, a)
