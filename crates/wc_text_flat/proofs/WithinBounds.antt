-- Lowered code keeps within its bounds.
use Rattle.wc_model.proofs.Common.{◌≡◌, ℕ, zero, suc, ◌+◌, ◌≤◌, ◌<◌, Bool, true, false, List, [], ◌∷◌, ◌++◌, map, length, Option, Some, None, append_assoc, refl, sym, ap, subst, ◌∙◌, arith, find, if◌then◌else◌, slice_get}
use Rattle.std.proofs.lemmas.List.{length-append, length-map}
use Rattle.std.specs.Option.{option_map}
use Rattle.wc_text_flat.proofs.Bodies.{lowered_length}
use Rattle.wc_text_flat.proofs.CallLines.{lowered_after}
use Rattle.wc_text_flat.proofs.InstancePlaces.{all_places}
use Rattle.wc_text_flat.proofs.Programs.{found_before}
use Rattle.wc_text_flat.specs.{frame_sizes, IsWithin, Operand, Number, At, IsPlaceOf, IsOperand, argument_line, load_line, apply_line, short_line, AreArguments, AreOutputs, IsUnitBody, IsBodyOf, IsStepLowered, IsOpening, size_of, places_before, first_of_all, first_place, step_length, flat_length, lines_ahead, IsLowered, AreLoweredAfter, LoweredCodeKeepsWithin}
use Rattle.wc_model.specs.Definitions.{positions_after, Variable, VariableType, Elementary, Standard, Block, same_name, variables_of, variable_named, is_block, block_named, direct_variables, kind_of_direct, frame_of, scope_of_position, carries, Name, Scope, type_of, readable_place, writable_place, Location, Direct, Path, Content, zero_of, below, variable_places, block_places, unit_places, program_frame, standard_fields}
use Rattle.wc_model.specs.Language.Tree.{Term, Constant, Address, Variable as NameOf, Field, Assignment, inputs_of, outputs_of, Step, Load, Store as StoreStep, Apply, Negate, Jump, Call, Return, Lines, End, Alone, Plain, Nested, ProgramUnit}
use Rattle.wc_model.specs.declared.code.Code.{Code}
use Rattle.wc_model.specs.declared.code.Code.TheVariants.{Close}
use Rattle.wc_model.specs.declared.place.Place.{Place}
use Rattle.wc_laws_language.proofs.CallSteps.{type_of-found}
use Rattle.wc_laws_language.proofs.Places.{Some-same, places_of, block_places-found}
use Rattle.wc_laws_language.proofs.FramePlaces.{one_number, number_within}

-- each line, with the number of lines after it: those of the list and some more
abbrev pub AllWithin : (ℕ → Code → Type 0) → ℕ → List Code → Type 0
AllWithin P more [] = Unit {0}
AllWithin P more (line ∷ code) = P (length code + more) line × AllWithin P more code

pub within_joined : (P : ℕ → Code → Type 0) (more : ℕ) (xs ys : List Code) → AllWithin P (length ys + more) xs → AllWithin P more ys → AllWithin P more (xs ++ ys)
within_joined P more [] ys h g = g
within_joined P more (x ∷ xs) ys h g =
    (subst (λ n. P n x) (let a = length-append xs ys in let e : length xs + (length ys + more) ≡ length (xs ++ ys) + more = omega (arith, a) in e) h.0, within_joined P more xs ys h.1 g)

pub within_at : (P : ℕ → Code → Type 0) (more : ℕ) (code : List Code) → AllWithin P more code → (k left : ℕ) (line : Code) → slice_get code k ≡ Some line → suc k + left ≡ length code + more → P left line
within_at P more [] h k left line e sum = cc
within_at P more (x ∷ code) h zero left line e sum =
    let is : x ≡ line = cc in
    subst (λ l. P left l) is (subst (λ n. P n x) (let a : length code + more ≡ left = omega (arith, sum) in a) h.0)
within_at P more (x ∷ code) h (suc k) left line e sum = within_at P more code h.1 k left line e (omega (arith, sum))

-- a place that has a number is within the frame
pub place_within : (scope : Scope) (found : Option Location) (place : Place) → IsPlaceOf scope found place → place.0 < length (frame_of scope)
place_within scope None place is = absurd is
place_within scope (Some location) place is = number_within (frame_of scope) location place.0 is

pub operand_within : (scope : Scope) (term : Term) (place : Place) → IsOperand scope term (At place) → place.0 < length (frame_of scope)
operand_within scope (Constant value) place is = absurd (cc)
operand_within scope (Address word) place is = place_within scope (readable_place scope (Address word)) place is
operand_within scope (NameOf name) place is = place_within scope (readable_place scope (NameOf name)) place is
operand_within scope (Field instance field) place is = place_within scope (readable_place scope (Field instance field)) place is

-- the lines of operands
pub load_within : (sizes : List ℕ) (unit left : ℕ) (scope : Scope) (negated : Bool) (term : Term) (operand : Operand) → IsOperand scope term operand → IsWithin sizes unit (length (frame_of scope)) left (load_line negated operand)
load_within sizes unit left scope negated term (Number n) is = tt
load_within sizes unit left scope negated term (At place) is = operand_within scope term place is

pub apply_within : (sizes : List ℕ) (unit left : ℕ) (scope : Scope) (operator : Rattle.wc_model.specs.declared.operator.Operator.Operator) (term : Term) (operand : Operand) → IsOperand scope term operand → IsWithin sizes unit (length (frame_of scope)) left (apply_line operator operand)
apply_within sizes unit left scope operator term (Number n) is = tt
apply_within sizes unit left scope operator term (At place) is = operand_within scope term place is

pub short_within : (sizes : List ℕ) (unit left : ℕ) (scope : Scope) (term : Term) (operand : Operand) → IsOperand scope term operand → IsWithin sizes unit (length (frame_of scope)) left (short_line operand)
short_within sizes unit left scope term (Number n) is = tt
short_within sizes unit left scope term (At place) is = operand_within scope term place is

pub argument_within : (sizes : List ℕ) (unit left : ℕ) (scope : Scope) (term : Term) (operand : Operand) (target : Place) → IsOperand scope term operand → target.0 < length (frame_of scope) → IsWithin sizes unit (length (frame_of scope)) left (argument_line operand target)
argument_within sizes unit left scope term (Number n) target is l = l
argument_within sizes unit left scope term (At place) target is l = (operand_within scope term place is, l)

pub arguments_within : (sizes : List ℕ) (unit : ℕ) (scope : Scope) (instance : Name) (more : ℕ) (arguments : List Assignment) (lines : List Code) → AreArguments scope instance arguments lines → AllWithin (λ left line. IsWithin sizes unit (length (frame_of scope)) left line) more lines
arguments_within sizes unit scope instance more [] [] are = tt
arguments_within sizes unit scope instance more [] (line ∷ lines) are = absurd are
arguments_within sizes unit scope instance more (argument ∷ arguments) [] are = absurd are
arguments_within sizes unit scope instance more (argument ∷ arguments) (line ∷ lines) are =
    let is = are.0 in
    (subst (λ l. IsWithin sizes unit (length (frame_of scope)) (length lines + more) l) (sym is.4) (argument_within sizes unit (length lines + more) scope argument.actual is.0 is.1 is.2 (place_within scope (Some (Path (instance ∷ argument.formal ∷ []))) is.1 is.3)), arguments_within sizes unit scope instance more arguments lines are.1)

pub outputs_within : (sizes : List ℕ) (unit : ℕ) (scope : Scope) (instance : Name) (more : ℕ) (outputs : List Assignment) (lines : List Code) → AreOutputs scope instance outputs lines → AllWithin (λ left line. IsWithin sizes unit (length (frame_of scope)) left line) more lines
outputs_within sizes unit scope instance more [] [] are = tt
outputs_within sizes unit scope instance more [] (line ∷ lines) are = absurd are
outputs_within sizes unit scope instance more (output ∷ outputs) [] are = absurd are
outputs_within sizes unit scope instance more (output ∷ outputs) (line ∷ lines) are =
    let is = are.0 in
    (subst (λ l. IsWithin sizes unit (length (frame_of scope)) (length lines + more) l) (sym is.4) (argument_within sizes unit (length lines + more) scope (Field instance output.formal) is.0 is.1 is.2 (place_within scope (writable_place scope output.actual) is.1 is.3)), outputs_within sizes unit scope instance more outputs lines are.1)

-- after the places before an instance there is space for its own
pub capacity_for : (before : List ProgramUnit) (vs : List Variable) (name : Name) (v : Variable) (first : ℕ) → find (λ u. same_name u.name name) vs ≡ Some v → places_before before vs name ≡ Some first → first + length (places_of before v) ≤ length (all_places before vs)
capacity_for before [] name v first f p = cc
capacity_for before (u ∷ vs) name v first f p = step (same_name u.name name) f p (λ m g q. capacity_for before vs name v m g q)
  where
    whole : length (below u.name (places_of before u) ++ all_places before vs) ≡ length (places_of before u) + length (all_places before vs)
    whole = length-append (below u.name (places_of before u)) (all_places before vs) ∙ ap (λ n. n + length (all_places before vs)) (length-map (places_of before u) (λ (p : List Name × Content). (u.name ∷ p.0, p.1)))

    further : (n : Option ℕ) → places_before before vs name ≡ n → option_map (λ m. size_of before u + m) n ≡ Some first → ((m : ℕ) → places_before before vs name ≡ Some m → m + length (places_of before v) ≤ length (all_places before vs)) → first + length (places_of before v) ≤ length (below u.name (places_of before u) ++ all_places before vs)
    further None is q onward = cc
    further (Some m) is q onward =
        let sum : size_of before u + m ≡ first = one_number (Some (size_of before u + m)) (size_of before u + m) first refl q in
        let l = onward m is in
        omega (arith, sum, l, whole)

    step : (b : Bool) → (if b then Some u else find (λ (w : Variable). same_name w.name name) vs) ≡ Some v → (if b then Some 0 else option_map (λ n. size_of before u + n) (places_before before vs name)) ≡ Some first → ((m : ℕ) → find (λ (w : Variable). same_name w.name name) vs ≡ Some v → places_before before vs name ≡ Some m → m + length (places_of before v) ≤ length (all_places before vs)) → first + length (places_of before v) ≤ length (below u.name (places_of before u) ++ all_places before vs)
    step true g q onward =
        let zeroth : 0 ≡ first = one_number (Some 0) 0 first refl q in
        let same : length (places_of before v) ≡ length (places_of before u) = ap (λ (w : Variable). length (places_of before w)) (Some-same u v g) in
        omega (arith, zeroth, same, whole)
    step false g q onward = further (places_before before vs name) refl q (λ m is. onward m g is)

-- the size of a frame
pub frame_size : (scope : Scope) → length (frame_of scope) ≡ first_of_all scope + length (unit_places scope.before scope.unit)
frame_size scope = step (is_block scope.unit)
  where
    directs : List (Location × Content)
    directs = map (λ v. (Direct v, zero_of (kind_of_direct v))) direct_variables

    paths : List (Location × Content)
    paths = map (λ p. (Path p.0, p.1)) (unit_places scope.before scope.unit)

    step : (b : Bool) → length (if b then map (λ p. (Path p.0, p.1)) (unit_places scope.before scope.unit) else program_frame scope.before scope.unit) ≡ (if b then 0 else length direct_variables) + length (unit_places scope.before scope.unit)
    step true = let a : length paths ≡ length (unit_places scope.before scope.unit) = length-map {B = Location × Content} (unit_places scope.before scope.unit) (λ p. (Path p.0, p.1)) in omega (arith, a)
    step false =
        let a : length (directs ++ paths) ≡ length directs + length paths = length-append directs paths in
        let b : length paths ≡ length (unit_places scope.before scope.unit) = length-map {B = Location × Content} (unit_places scope.before scope.unit) (λ p. (Path p.0, p.1)) in
        let c : length directs ≡ length direct_variables = length-map {B = Location × Content} direct_variables (λ v. (Direct v, zero_of (kind_of_direct v))) in
        omega (arith, a, b, c)

-- an instance is within its unit's frame
pub instance_within : (scope : Scope) (name : Name) (v : Variable) → variable_named scope.unit name ≡ Some v → (at : ℕ) → first_place scope name ≡ Some at → at + length (places_of scope.before v) ≤ length (frame_of scope)
instance_within scope name v found at first = step (places_before scope.before (variables_of scope.unit) name) refl first
  where
    step : (o : Option ℕ) → places_before scope.before (variables_of scope.unit) name ≡ o → option_map (λ n. first_of_all scope + n) o ≡ Some at → at + length (places_of scope.before v) ≤ length (frame_of scope)
    step None is f = cc
    step (Some n) is f =
        let sum : first_of_all scope + n ≡ at = one_number (Some (first_of_all scope + n)) (first_of_all scope + n) at refl f in
        let l = capacity_for scope.before (variables_of scope.unit) name v n found is in
        let s = frame_size scope in
        omega (arith, sum, l, s)

-- the sizes of units that come newest first
abbrev pub AreSizesOf : List ℕ → List ProgramUnit → Type 0
AreSizesOf sizes [] = Unit {0}
AreSizesOf sizes (unit ∷ before) = (slice_get sizes (length before) ≡ Some (length (frame_of (record { before = before; unit = unit })))) × AreSizesOf sizes before

-- a block that is found has the size of its own places
pub size_found : (sizes : List ℕ) (before : List ProgramUnit) → AreSizesOf sizes before → (name : Name) (unit : ProgramUnit) (earlier : List ProgramUnit) → block_named before name ≡ Some (unit, earlier) → slice_get sizes (length earlier) ≡ Some (length (unit_places earlier unit))
size_found sizes [] are name unit earlier e = cc
size_found sizes (u ∷ before) are name unit earlier e = step (same_name u.name.name name) e (λ f. size_found sizes before are.1 name unit earlier f)
  where
    this : ProgramUnit × List ProgramUnit
    this = (u, before)

    that : ProgramUnit × List ProgramUnit
    that = (unit, earlier)

    own : is_block u ≡ true → length (frame_of (record { before = before; unit = u })) ≡ length (unit_places before u)
    own b = let s = frame_size (record { before = before; unit = u }) in let z : first_of_all (record { before = before; unit = u }) ≡ 0 = ap (λ (x : Bool). if x then 0 else length direct_variables) b in omega (arith, s, z)

    block : (b : Bool) → is_block u ≡ b → (if b then Some this else None) ≡ Some that → slice_get sizes (length earlier) ≡ Some (length (unit_places earlier unit))
    block true is f =
        ap (λ (p : ProgramUnit × List ProgramUnit). slice_get sizes (length p.1)) (Some-same this that f)
        ∙ (are.0 ∙ (ap Some (own is) ∙ ap (λ (p : ProgramUnit × List ProgramUnit). Some (length (unit_places p.1 p.0))) (sym (Some-same this that f))))
    block false is f = cc

    step : (b : Bool) → (elim b as (λ x. Option (ProgramUnit × List ProgramUnit)) [ true ↦ (if is_block u then Some this else None) | false ↦ block_named before name ]) ≡ Some that → (block_named before name ≡ Some that → slice_get sizes (length earlier) ≡ Some (length (unit_places earlier unit))) → slice_get sizes (length earlier) ≡ Some (length (unit_places earlier unit))
    step true f onward = block (is_block u) refl f
    step false f onward = onward f

-- the body of what is called
pub body_within : (sizes : List ℕ) (scope : Scope) → AreSizesOf sizes scope.before → (left : ℕ) (instance : Name) (line : Code) (type : Option VariableType) → type_of scope instance ≡ type → IsBodyOf scope instance type line → IsWithin sizes (length scope.before) (length (frame_of scope)) left line
body_within sizes scope are left instance line None e is = absurd is
body_within sizes scope are left instance line (Some (Elementary kind)) e is = absurd is
body_within sizes scope are left instance line (Some (Standard block)) e is =
    let v = type_of-found scope instance (Standard block) e in
    let l = instance_within scope instance v.variable v.found is.0.0 is.1 in
    let same : length (places_of scope.before v.variable) ≡ length (standard_fields block) = ap (λ (t : Option VariableType). length (variable_places (block_places scope.before) t v.variable.initial)) v.typed ∙ length-map (standard_fields block) (λ (f : Name × Content). (f.0 ∷ [], f.1)) in
    subst (λ l. IsWithin sizes (length scope.before) (length (frame_of scope)) left l) (sym is.2) (omega (arith, l, same))
body_within sizes scope are left instance line (Some (Block name)) e is = step (block_named scope.before name) refl is
  where
    step : (b : Option (ProgramUnit × List ProgramUnit)) → block_named scope.before name ≡ b → IsUnitBody scope instance b line → IsWithin sizes (length scope.before) (length (frame_of scope)) left line
    step None f lowered = absurd lowered
    step (Some found) f lowered =
        let v = type_of-found scope instance (Block name) e in
        let l = instance_within scope instance v.variable v.found lowered.0.0 lowered.1 in
        let same : length (places_of scope.before v.variable) ≡ length (unit_places found.1 found.0) = ap (λ (t : Option VariableType). length (variable_places (block_places scope.before) t v.variable.initial)) v.typed ∙ ap (λ (ps : List (List Name × Content)). length ps) (block_places-found scope.before name found.0 found.1 f) in
        subst (λ l. IsWithin sizes (length scope.before) (length (frame_of scope)) left l) (sym lowered.2)
        (found_before scope.before name found.0 found.1 f, length (unit_places found.1 found.0), size_found sizes scope.before are name found.0 found.1 f, omega (arith, l, same))

-- a label ahead is within the lines
pub ahead_within : (lines : Lines) (label : Name) (n : ℕ) → lines_ahead lines label ≡ Some n → n ≤ flat_length lines
ahead_within End label n e = cc
ahead_within (Alone word rest) label n e = step (same_name word.name label) e (λ f. ahead_within rest label n f)
  where
    step : (b : Bool) → (if b then Some 0 else lines_ahead rest label) ≡ Some n → (lines_ahead rest label ≡ Some n → n ≤ flat_length rest) → n ≤ flat_length rest
    step true f onward = let z : 0 ≡ n = one_number (Some 0) 0 n refl f in omega (arith, z)
    step false f onward = onward f
ahead_within (Plain word number own rest) label n e = step (carries word label) e (λ m f. ahead_within rest label m f)
  where
    further : (o : Option ℕ) → lines_ahead rest label ≡ o → option_map (λ m. step_length own + m) o ≡ Some n → ((m : ℕ) → lines_ahead rest label ≡ Some m → m ≤ flat_length rest) → n ≤ step_length own + flat_length rest
    further None is f onward = cc
    further (Some m) is f onward = let s = one_number (Some (step_length own + m)) (step_length own + m) n refl f in let l = onward m is in omega (arith, s, l)

    step : (b : Bool) → (if b then Some 0 else option_map (λ m. step_length own + m) (lines_ahead rest label)) ≡ Some n → ((m : ℕ) → lines_ahead rest label ≡ Some m → m ≤ flat_length rest) → n ≤ step_length own + flat_length rest
    step true f onward = let z : 0 ≡ n = one_number (Some 0) 0 n refl f in omega (arith, z)
    step false f onward = further (lines_ahead rest label) refl f onward
ahead_within (Nested word number operator operand inside close rest) label n e = step (carries word label) e (λ m f. ahead_within rest label m f)
  where
    further : (o : Option ℕ) → lines_ahead rest label ≡ o → option_map (λ m. 2 + flat_length inside + m) o ≡ Some n → ((m : ℕ) → lines_ahead rest label ≡ Some m → m ≤ flat_length rest) → n ≤ 2 + flat_length inside + flat_length rest
    further None is f onward = cc
    further (Some m) is f onward = let s = one_number (Some (2 + flat_length inside + m)) (2 + flat_length inside + m) n refl f in let l = onward m is in omega (arith, s, l)

    step : (b : Bool) → (if b then Some 0 else option_map (λ m. 2 + flat_length inside + m) (lines_ahead rest label)) ≡ Some n → ((m : ℕ) → lines_ahead rest label ≡ Some m → m ≤ flat_length rest) → n ≤ 2 + flat_length inside + flat_length rest
    step true f onward = let z : 0 ≡ n = one_number (Some 0) 0 n refl f in omega (arith, z)
    step false f onward = further (lines_ahead rest label) refl f onward

-- the lines of a step, after which those of the rest follow, and more
pub step_within : (sizes : List ℕ) (scope : Scope) → AreSizesOf sizes scope.before → (rest : Lines) (more : ℕ) → flat_length rest ≤ more → (step : Step) (own : List Code) → IsStepLowered scope rest step own → AllWithin (λ left line. IsWithin sizes (length scope.before) (length (frame_of scope)) left line) more own
step_within sizes scope are rest more l (Load negated term) own lowered = subst (λ (c : List Code). AllWithin (λ left line. IsWithin sizes (length scope.before) (length (frame_of scope)) left line) more c) (sym lowered.2) (load_within sizes (length scope.before) _ scope negated term lowered.0 lowered.1, tt)
step_within sizes scope are rest more l (StoreStep storing target) own lowered = subst (λ (c : List Code). AllWithin (λ left line. IsWithin sizes (length scope.before) (length (frame_of scope)) left line) more c) (sym lowered.2) (place_within scope (writable_place scope target) lowered.0 lowered.1, tt)
step_within sizes scope are rest more l (Apply operator term) own lowered = subst (λ (c : List Code). AllWithin (λ left line. IsWithin sizes (length scope.before) (length (frame_of scope)) left line) more c) (sym lowered.2) (apply_within sizes (length scope.before) _ scope operator term lowered.0 lowered.1, tt)
step_within sizes scope are rest more l Negate own lowered = subst (λ (c : List Code). AllWithin (λ left line. IsWithin sizes (length scope.before) (length (frame_of scope)) left line) more c) (sym lowered) (tt, tt)
step_within sizes scope are rest more l (Jump condition label) own lowered =
    subst (λ (c : List Code). AllWithin (λ left line. IsWithin sizes (length scope.before) (length (frame_of scope)) left line) more c) (sym lowered.2)
    ((let a = ahead_within rest label lowered.0 lowered.1 in omega (arith, a, l)), tt)
step_within sizes scope are rest more l (Return condition) own lowered = subst (λ (c : List Code). AllWithin (λ left line. IsWithin sizes (length scope.before) (length (frame_of scope)) left line) more c) (sym lowered) (tt, tt)
step_within sizes scope are rest more l (Call condition instance arguments) own lowered =
    subst (λ (c : List Code). AllWithin (λ left line. IsWithin sizes (length scope.before) (length (frame_of scope)) left line) more c) (sym lowered.is) (
      (let a = lowered_after scope condition instance arguments own lowered in omega (arith, a)),
      within_joined (λ left line. IsWithin sizes (length scope.before) (length (frame_of scope)) left line) more lowered.assigned (lowered.body ∷ lowered.given)
          (arguments_within sizes (length scope.before) scope instance (length (lowered.body ∷ lowered.given) + more) (inputs_of arguments) lowered.assigned lowered.inputs)
          (body_within sizes scope are _ instance lowered.body (type_of scope instance) refl lowered.called, outputs_within sizes (length scope.before) scope instance more (outputs_of arguments) lowered.given lowered.outputs),
    )

-- the lines of a body
pub lines_within : (sizes : List ℕ) (scope : Scope) → AreSizesOf sizes scope.before → (lines : Lines) (more : ℕ) (code : List Code) → IsLowered scope lines code → AllWithin (λ left line. IsWithin sizes (length scope.before) (length (frame_of scope)) left line) more code
lines_within sizes scope are End more code lowered = subst (λ (c : List Code). AllWithin (λ left line. IsWithin sizes (length scope.before) (length (frame_of scope)) left line) more c) (sym lowered) tt
lines_within sizes scope are (Alone word rest) more code lowered = lines_within sizes scope are rest more code lowered
lines_within sizes scope are (Plain word number step rest) more code lowered =
    subst (λ (c : List Code). AllWithin (λ left line. IsWithin sizes (length scope.before) (length (frame_of scope)) left line) more c) (sym lowered.whole)
    (within_joined (λ left line. IsWithin sizes (length scope.before) (length (frame_of scope)) left line) more lowered.own lowered.others
    (step_within sizes scope are rest (length lowered.others + more) (let a = lowered_length scope rest lowered.others lowered.rest in omega (arith, a)) step lowered.own lowered.step)
    (lines_within sizes scope are rest more lowered.others lowered.rest))
lines_within sizes scope are (Nested word number operator operand inside close rest) more code lowered =
    subst (λ (c : List Code). AllWithin (λ left line. IsWithin sizes (length scope.before) (length (frame_of scope)) left line) more c) (sym lowered.whole) (
      opens operand lowered.opening lowered.opens,
      within_joined (λ left line. IsWithin sizes (length scope.before) (length (frame_of scope)) left line) more lowered.inner (Close operator ∷ lowered.others)
          (lines_within sizes scope are inside (length (Close operator ∷ lowered.others) + more) lowered.inner lowered.inside)
          (tt, lines_within sizes scope are rest more lowered.others lowered.rest),
    )
  where
    opens : (o : Option Term) (line : Code) → IsOpening scope o line → IsWithin sizes (length scope.before) (length (frame_of scope)) (length (lowered.inner ++ Close operator ∷ lowered.others) + more) line
    opens None line is = subst (λ l. IsWithin sizes (length scope.before) (length (frame_of scope)) (length (lowered.inner ++ Close operator ∷ lowered.others) + more) l) (sym is) tt
    opens (Some term) line is = subst (λ l. IsWithin sizes (length scope.before) (length (frame_of scope)) (length (lowered.inner ++ Close operator ∷ lowered.others) + more) l) (sym is.2) (short_within sizes (length scope.before) _ scope term is.0 is.1)

-- the sizes of the frames of units after those before
abbrev pub sizes_after : List ProgramUnit → List ProgramUnit → List ℕ
sizes_after before units = map (λ scope. length (frame_of scope)) (map scope_of_position (positions_after before units))

pub size_at_seam : (prefix rest : List ℕ) (size n : ℕ) → length prefix ≡ n → slice_get (prefix ++ size ∷ rest) n ≡ Some size
size_at_seam [] rest size zero e = refl
size_at_seam [] rest size (suc n) e = absurd (omega (arith, e))
size_at_seam (c ∷ prefix) rest size zero e = absurd (omega (arith, e))
size_at_seam (c ∷ prefix) rest size (suc n) e = size_at_seam prefix rest size n (omega (arith, e))

-- the code of each unit after those before
pub units_within : (sizes prefix : List ℕ) (before units : List ProgramUnit) (codes : List (List Code)) → sizes ≡ prefix ++ sizes_after before units → length prefix ≡ length before → AreLoweredAfter before units codes → AreSizesOf sizes before → (i size : ℕ) (code : List Code) → slice_get codes i ≡ Some code → slice_get (sizes_after before units) i ≡ Some size → AllWithin (λ left line. IsWithin sizes (length before + i) size left line) 0 code
units_within sizes prefix before [] [] whole count lowered are i size code c s = cc
units_within sizes prefix before [] (first ∷ codes) whole count lowered are i size code c s = absurd lowered
units_within sizes prefix before (unit ∷ units) [] whole count lowered are i size code c s = absurd lowered
units_within sizes prefix before (unit ∷ units) (first ∷ codes) whole count lowered are zero size code c s =
    let scope : Scope = record { before = before; unit = unit } in
    let is : first ≡ code = Some-same code first (sym c) in
    let sized : length (frame_of scope) ≡ size = one_number (Some (length (frame_of scope))) (length (frame_of scope)) size refl s in
    let number : length before ≡ length before + 0 = omega arith in
    subst (λ (l : List Code). AllWithin (λ left line. IsWithin sizes (length before + 0) size left line) 0 l) is
    (subst (λ n. AllWithin (λ left line. IsWithin sizes n size left line) 0 first) number
    (subst (λ n. AllWithin (λ left line. IsWithin sizes (length before) n left line) 0 first) sized
    (lines_within sizes scope are unit.body 0 first lowered.0)))
units_within sizes prefix before (unit ∷ units) (first ∷ codes) whole count lowered are (suc i) size code c s =
    let mine : ℕ = length (frame_of (record { before = before; unit = unit })) in
    let joined : (prefix ++ mine ∷ []) ++ sizes_after (unit ∷ before) units ≡ prefix ++ mine ∷ sizes_after (unit ∷ before) units = append_assoc prefix (mine ∷ []) (sizes_after (unit ∷ before) units) in
    let so_many : length (prefix ++ mine ∷ []) ≡ length (unit ∷ before) = let a = length-append prefix (mine ∷ []) in omega (arith, a, count) in
    let here : slice_get sizes (length before) ≡ Some mine = ap (λ (ns : List ℕ). slice_get ns (length before)) whole ∙ size_at_seam prefix (sizes_after (unit ∷ before) units) mine (length before) count in
    let number : length (unit ∷ before) + i ≡ length before + suc i = omega arith in
    subst (λ n. AllWithin (λ left line. IsWithin sizes n size left line) 0 code) number
    (units_within sizes (prefix ++ mine ∷ []) (unit ∷ before) units codes (whole ∙ sym joined) so_many lowered.1 (here, are) i size code c s)

pub lowered_code_keeps_within : LoweredCodeKeepsWithin
lowered_code_keeps_within text codes lowered unit size code c s k left line e sum =
    let number : 0 + unit ≡ unit = omega arith in
    let all : AllWithin (λ l x. IsWithin (frame_sizes text) unit size l x) 0 code = subst (λ n. AllWithin (λ l x. IsWithin (frame_sizes text) n size l x) 0 code) number (units_within (frame_sizes text) [] [] text codes refl refl lowered tt unit size code c s) in
    within_at (λ l x. IsWithin (frame_sizes text) unit size l x) 0 code all k left line e (omega (arith, sum))
