-- The flat lines of a call, and what holds if it gives no fault.
use Rattle.wc_model.proofs.Common.{◌≡◌, Result, Ok, Err, subst, ℕ, ◌+◌, List, ◌∷◌, ◌++◌, map, length, append_assoc, refl, sym, ap, ◌∙◌, OnOk, MatchResult}
use Rattle.wc_text_flat.specs.{step_sources, IsBodyOf, IsStepLowered}
use Rattle.wc_model.specs.Definitions.{Name, Scope, type_of, Assignment, inputs_of, outputs_of, Call as CallStep, Lines}
use Rattle.wc_model.specs.declared.code.Code.{Code}
use Rattle.wc_model.specs.declared.code.Code.TheVariants.{Call}
use Rattle.wc_model.specs.declared.operator.Condition.{Condition}
use Rattle.wc_cost.specs.Lowering.{FlatLines, put_line, Adds, AddsArguments, AddsOutputs}

pub on_ok : {X E P Q : Type 0} (r : Result X E) → (P → Q) → OnOk r P → OnOk r Q
on_ok (Ok x) go h = go h
on_ok (Err fault) go h = tt

-- what a call promises, also where its lack of memory is given as another fault
pub handed_on : {X E F : Type 0} (P : Type 0) (fault : F) (made : Result X E) (given : Result X F) (x : X) → MatchResult made (λ value. given ≡ Ok value) (λ error. given ≡ Err fault) → given ≡ Ok x → OnOk made P → P
handed_on P fault (Ok value) given x same is h = h
handed_on {X} {E} {F} P fault (Err error) given x same is h = subst (λ (r : Result X F). OnOk r P) is (rw same tt)

-- its own line, its inputs, its body and its outputs, which are put first
pub call_added : (scope : Scope) (rest : Lines) (condition : Condition) (instance : Name) (arguments : List Assignment) (line : ℕ) (old zeroth first second new : FlatLines) (body : Code) (skip : ℕ) →
    AddsOutputs scope instance line (outputs_of arguments) old zeroth → IsBodyOf scope instance (type_of scope instance) body → first ≡ put_line body line zeroth → AddsArguments scope instance line (inputs_of arguments) first second → skip ≡ 1 + length arguments → new ≡ put_line (Call condition skip) line second →
    Adds (IsStepLowered scope rest (CallStep condition instance arguments)) (step_sources line (CallStep condition instance arguments)) old new
call_added scope rest condition instance arguments line old zeroth first second new body skip o is e h s f =
    let head = Call condition (1 + length arguments) in
    let inputs : List ℕ = map (λ input. line) (inputs_of arguments) in
    let outputs : List ℕ = map (λ output. line) (outputs_of arguments) in
    record {
      own = head ∷ h.own ++ body ∷ o.own;
      lowered = record { assigned = h.own; body = body; given = o.own; inputs = h.lowered; called = is; outputs = o.lowered; is = refl };
      code = ap (λ (x : FlatLines). x.code) f ∙ (λ i. Call condition (s i) ∷ h.code i) ∙ ap (λ c. head ∷ h.own ++ c) (ap (λ (x : FlatLines). x.code) e ∙ ap (λ c. body ∷ c) o.code)
          ∙ ap (λ c. head ∷ c) (sym (append_assoc h.own (body ∷ o.own) old.code));
      places = ap (λ (x : FlatLines). x.sources) f ∙ ap (λ c. line ∷ c) h.places ∙ ap (λ c. line ∷ inputs ++ c) (ap (λ (x : FlatLines). x.sources) e ∙ ap (λ c. line ∷ c) o.places)
          ∙ ap (λ c. line ∷ c) (sym (append_assoc inputs (line ∷ outputs) old.sources));
    }
