-- What is reported about a fault is the text's one refusal.
use Rattle.std.proofs.Common.{◌≡◌, ◌≤◌, ℕ, Bool, true, List, Option, Some, None, is_some, sym, subst, arith}
use Rattle.wc_controller.specs.Loads.{IsRefusedLoad, IsTheOnlyRefusal}
use Rattle.wc_model.specs.declared.fault.Fault.{Fault}
use Rattle.wc_model.specs.declared.fault.Fault.TheVariants.{Memory, Refused}
use Rattle.wc_run.specs.OpenScales.{HasNoProgram}
use Rattle.wc_run.specs.declared.open_scale.OpenScale.{OpenScale}
use Rattle.wc_scale.specs.{ReportsNoUnit, IsRefusedAt, IsBare, ReportsFault, RefusesChange, RefusesLoad, machine_in}
use Rattle.wc_scale.specs.declared.scale.Scale.{Scale}
use Rattle.wc_scale.specs.declared.results.Refusal.{Refusal}
use Rattle.wc_store.specs.declared.slot_store.SlotStore.{SlotStore}

-- of a program's text
pub refused_at : (bytes : List ℕ) (fault : Fault) (reported : Refusal) → IsRefusedLoad bytes fault → IsTheOnlyRefusal bytes fault → ReportsFault fault reported →
    reported.status ≡ 1 → IsRefusedAt bytes reported.number reported.place
refused_at bytes (Refused number place) reported refused only reports is =
    let Refuses : ℕ → ℕ → Type 0 = λ n p. IsRefusedAt bytes n p in
    subst (λ n. Refuses n reported.place) (sym reports.1) (subst (λ p. Refuses number p) (sym reports.2)
    (record { refused = refused; never = only.0; only = only.1 }))
refused_at bytes Memory reported refused only reports is = absurd (omega arith)

-- a fault is reported by status 1 or 2
pub fault_status : (fault : Fault) (reported : Refusal) → ReportsFault fault reported → (reported.status ≤ 2) × ¬ (reported.status ≡ 0)
fault_status (Refused number place) reported reports = (omega arith, λ none. absurd (omega arith))
fault_status Memory reported reports = (omega arith, λ none. absurd (omega arith))

-- unless it is refused, its number and position are 0
pub fault_is_bare : (fault : Fault) (reported : Refusal) → ReportsFault fault reported → IsBare reported
fault_is_bare (Refused number place) reported reports = λ other. absurd (other reports.0)
fault_is_bare Memory reported reports = λ other. (reports.1, reports.2)

pub no_unit_answer : (bytes : List ℕ) (unit : ℕ) (fault : Fault) (reported : Refusal) → ReportsFault fault reported → ReportsNoUnit bytes unit reported
no_unit_answer bytes unit fault reported reports = λ is. absurd (omega (arith, (fault_status fault reported reports).0, is))

-- if a program is said to be, there is one
pub has_a_program : {X : Type 0} (kept : Option X) (there : Bool) → there ≡ is_some kept → there ≡ true → ¬ (kept ≡ None)
has_a_program None there said is = λ _. absurd (cc)
has_a_program (Some x) there said is = λ other. absurd (cc)

-- a scale is what it was once what is open in it is put back
put_back : (old : Scale) (opened : OpenScale SlotStore) → old.opened ≡ Some opened → record old { opened = Some opened } ≡ old
put_back old opened is = λ i. record old { opened = sym is i }

-- a program that is refused leaves the one that is loaded
pub refuses_load : (old : Scale) (opened : OpenScale SlotStore) (bytes : List ℕ) (fault : Fault) (reported : Refusal) → old.opened ≡ Some opened → IsRefusedLoad bytes fault →
    IsTheOnlyRefusal bytes fault → ReportsFault fault reported → RefusesLoad old (record old { opened = Some opened }) bytes reported
refuses_load old opened bytes fault reported is refused only reports =
    record {
      kept = λ other. put_back old opened is;
      closed = λ none. absurd (cc);
      says = refused_at bytes fault reported refused only reports;
      bare = fault_is_bare fault reported reports;
      else = λ _. (fault_status fault reported reports).0;
    }

-- and so at a change
pub refuses_change : (old : Scale) (opened : OpenScale SlotStore) (bytes : List ℕ) (fault : Fault) (reported : Refusal) → old.opened ≡ Some opened → ¬ (HasNoProgram opened) →
    IsRefusedLoad bytes fault → IsTheOnlyRefusal bytes fault → ReportsFault fault reported → RefusesChange old (record old { opened = Some opened }) bytes reported
refuses_change old opened bytes fault reported is has refused only reports =
    record {
      kept = λ other. put_back old opened is;
      closed = λ none. absurd (cc);
      program = λ _ none. absurd (has (subst (λ held. machine_in held ≡ None) is none));
      says = refused_at bytes fault reported refused only reports;
      bare = fault_is_bare fault reported reports;
      else = λ _ _. (fault_status fault reported reports).0;
    }
