-- Lists that give no output out.
use Rattle.wc_model.proofs.Common.{◌≡◌, ℕ, Bool, true, false, not, List, [], ◌∷◌, ◌++◌, map, Option, Result, Ok, Err, append-nil, refl, sym, ap, ◌∙◌, ◌↔◌, if◌then◌else◌, flat_map}
use Rattle.wc_model.specs.Definitions.{actual_checks, argument_checks, formal_named, Member, VariableType, members_of, Context, Effect, Goes, Outcome, Done, Stuck, Running, assigned, body_outcome, call_trace, called_type, from_store, given_out, made, Name, IsCallPath, Reason, Scope, Store, Item, At, Argument, GivenOut, Assignment, goes_in, inputs_of, outputs_of}
use Rattle.wc_model.specs.Language.Checks.{Check, Position, asks, positions_after}
use Rattle.wc_model.specs.declared.operator.Direction.{Direction}
use Rattle.wc_model.specs.declared.operator.Direction.TheVariants.{Into, OutOf}
use Rattle.wc_model.specs.declared.value.Value.{Value}
use Rattle.wc_laws_language.specs.CallLaws.{IsCallPathBefore, argument_checks_before, called_before, made_before, trace_before}

-- the first of such a list goes in, and so do the others
pub first_goes_in : (b : Bool) (a : Assignment) (others : List Assignment) → (if not b then a ∷ others else others) ≡ [] → (b ≡ true) × (others ≡ [])
first_goes_in true a others e = (refl, e)
first_goes_in false a others e = cc

-- all of it goes in
pub all_go_in : (arguments : List Assignment) → outputs_of arguments ≡ [] → inputs_of arguments ≡ arguments
all_go_in [] e = refl
all_go_in (a ∷ arguments) e =
    let both = first_goes_in (goes_in a) a (outputs_of arguments) e in
    ap (λ b. if b then a ∷ inputs_of arguments else inputs_of arguments) both.0 ∙ ap (λ rest. a ∷ rest) (all_go_in arguments both.1)

-- what is executed is what was
pub same_trace : (line : ℕ) (arguments : List Assignment) (body : List Item) → outputs_of arguments ≡ [] → call_trace line arguments body ≡ trace_before line arguments body
same_trace line arguments body e =
    ap (λ (outputs : List Assignment). At line ∷ map (λ (input : Assignment). Argument) (inputs_of arguments) ++ body ++ map (λ (output : Assignment). GivenOut) outputs) e
    ∙ (append-nil (At line ∷ map (λ (input : Assignment). Argument) (inputs_of arguments) ++ body)
    ∙ ap (λ (inputs : List Assignment). At line ∷ map (λ (input : Assignment). Argument) inputs ++ body) (all_go_in arguments e))

-- a call that is made
same_made : (here : Context) (instance : Name) (o : Outcome) (line : ℕ) (arguments : List Assignment) (result : Option Value) → outputs_of arguments ≡ [] → made here instance o line arguments result ≡ made_before o line arguments result
same_made here instance (Stuck reason) line arguments result e = refl
same_made here instance (Done inner store trace) line arguments result e =
    ap (λ (outputs : List Assignment). from_store (given_out here instance outputs store) (λ new. Goes (Running result) new (call_trace line arguments trace))) e
    ∙ ap (λ (items : List Item). Goes (Running result) store items) (same_trace line arguments trace e)

-- what follows from the same store is the same
same_after : (r : Result Store Reason) (f g : Store → Effect) → ((new : Store) → f new ≡ g new) → from_store r f ≡ from_store r g
same_after (Ok store) f g same = same store
same_after (Err reason) f g same = refl

pub same_call : (here : Context) (type : VariableType) (line : ℕ) (instance : Name) (arguments : List Assignment) (result : Option Value) (store : Store) → outputs_of arguments ≡ []
    → called_type here type line instance arguments result store ≡ called_before here type line instance arguments result store
same_call here type line instance arguments result store e =
    ap (λ (inputs : List Assignment). from_store (assigned here (members_of here.scope.before type) instance inputs store) (λ new. made here instance (body_outcome here type instance new) line arguments result)) (all_go_in arguments e)
    ∙ same_after (assigned here (members_of here.scope.before type) instance arguments store) (λ new. made here instance (body_outcome here type instance new) line arguments result)
    (λ new. made_before (body_outcome here type instance new) line arguments result) (λ new. same_made here instance (body_outcome here type instance new) line arguments result e)

-- its paths
pub same_paths : (block_path : Name → List Item → Type 0) (scope : Scope) (line : ℕ) (instance : Name) (arguments : List Assignment) (items : List Item) → outputs_of arguments ≡ []
    → IsCallPath block_path scope line instance arguments items ↔ IsCallPathBefore block_path scope line instance arguments items
same_paths block_path scope line instance arguments items e = (
  λ h. (h.0, h.1, h.2 ∙ same_trace line arguments h.0 e),
  λ h. (h.0, h.1, h.2 ∙ sym (same_trace line arguments h.0 e)),
)

-- the rules of one that goes in
same_checks : (scope : Scope) (line : ℕ) (members : List Member) (position : Position Assignment) → goes_in position.item ≡ true → argument_checks scope line members position ≡ argument_checks_before scope line members position
same_checks scope line members position e = ap (λ (way : Direction). checks_of way) (into position.item.direction e)
  where
    checks_of : Direction → List Check
    checks_of way =
        asks 409 line (Rattle.std.specs.Prelude.is_some (formal_named way members position.item.formal))
        ∷ asks 410 line (not (Rattle.std.specs.List.list_any (λ a. Rattle.wc_model.specs.Language.Declarations.same_name a.formal position.item.formal) position.before))
        ∷ actual_checks scope line way (formal_named way members position.item.formal) position.item.actual

    into : (way : Direction) → (elim way as (λ x. Bool) [ Into ↦ true | OutOf ↦ false ]) ≡ true → way ≡ Into
    into Into f = refl
    into OutOf f = cc

pub same_rules : (scope : Scope) (line : ℕ) (members : List Member) (before arguments : List Assignment) → outputs_of arguments ≡ []
    → flat_map (argument_checks scope line members) (positions_after before arguments) ≡ flat_map (argument_checks_before scope line members) (positions_after before arguments)
same_rules scope line members before [] e = refl
same_rules scope line members before (a ∷ arguments) e =
    let both = first_goes_in (goes_in a) a (outputs_of arguments) e in
    let position : Position Assignment = record { before = before; item = a; following = arguments } in
    ap (λ (checks : List Check). checks ++ flat_map (argument_checks scope line members) (positions_after (a ∷ before) arguments)) (same_checks scope line members position both.0)
    ∙ ap (λ (checks : List Check). argument_checks_before scope line members position ++ checks) (same_rules scope line members (a ∷ before) arguments both.1)
