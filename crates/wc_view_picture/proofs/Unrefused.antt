-- How a run ends of whose bytes nothing is said, if no line of a refusal is written.
use Rattle.wc_model.proofs.Common.{◌≡◌, ℕ, List, Option, Ok, Err, Some, None, Result, ap, arith, refl, subst, sym, IfSome}
use Rattle.wc_controller.proofs.EndedRuns.{run_ended}
use Rattle.wc_controller.specs.{EndsAfter, EndsAfterFault, ReportsFailures, ReportsWriteFaults, ending_of, fault_ending, raised, status_of, Observed, RunsAs, RunsUpTo, InputStates}
use Rattle.wc_job.specs.declared.input.Input.{Input}
use Rattle.wc_controller.specs.declared.ending.InputFault.{InputFault}
use Rattle.wc_model.specs.Definitions.{Record, Logic}
use Rattle.wc_run.specs.declared.fault.RunFault.{RunFault}
use Rattle.wc_run.specs.declared.fault.RunFault.TheVariants.{Refused, Read, Write, Memory}
use Rattle.wc_view_picture.specs.Seen.{IsUnknownOf, unsaid, HasRefused}
use Rattle.wc_view_picture.specs.declared.picture.Picture.{Picture}
use Rattle.wc_view_watch.specs.Plans.{IsFirstUnknown}
use Rattle.wc_view_watch.specs.declared.names.UnknownName.{UnknownName}

unwritten_fault : (at : Input) (why : RunFault) → EndsAfterFault at why (fault_ending at why) None None
unwritten_fault at (Refused number place) = (refl, refl, refl, tt)
unwritten_fault at Read = (refl, tt)
unwritten_fault at Write = (refl, tt)
unwritten_fault at Memory = (refl, tt)

pub unwritten : (answer : Result (Unit {0}) InputFault) → EndsAfter answer (ending_of answer) None None
unwritten (Ok done) = (refl, tt)
unwritten (Err stopped) = unwritten_fault stopped.input stopped.fault

-- a write fault is reported if a write failed, and only then
fault_reported : (at : Input) (why : RunFault) (old new : ℕ) → ReportsWriteFaults (Some why) old new → ReportsFailures (fault_ending at why) old new
fault_reported at (Refused number place) old new h = (λ e. absurd (omega (arith, ap status_of e)), λ _. h)
fault_reported at Read old new h = (λ e. absurd (cc (e)), λ _. h)
fault_reported at Write old new h = (λ _. h, λ no. absurd (no refl))
fault_reported at Memory old new h = (λ e. absurd (omega (arith, ap status_of e)), λ _. h)

write_reported : (answer : Result (Unit {0}) InputFault) (old new : ℕ) → ReportsWriteFaults (raised answer) old new → ReportsFailures (ending_of answer) old new
write_reported (Ok done) old new h = (λ e. absurd (omega (arith, ap status_of e)), λ _. h)
write_reported (Err stopped) old new h = fault_reported stopped.input stopped.fault old new h

pub run_unrefused : (o : Observed) (before after : InputStates) (reported : Record) (answer : Result (Unit {0}) InputFault) (old new : ℕ)
    → RunsUpTo o before after reported answer (unsaid old) (unsaid new) → RunsAs o before after reported (ending_of answer) (unsaid old) (unsaid new)
run_unrefused o before after reported answer old new h =
    run_ended o before after reported answer (ending_of answer) (unsaid old) (unsaid new) (unsaid new) h (unwritten answer) (write_reported answer old new h.failures)

-- the name that is found is the first that is unknown
pub unknown_is : (list : Option (List ℕ)) (picture : Picture) (logic : Option Logic) (held : UnknownName) → IfSome picture.names.unknown (λ name. held ≡ name) → HasRefused list picture logic
    → IsUnknownOf list logic held
unknown_is None picture logic held is refused = refused
unknown_is (Some list) picture logic held is (name, there, first) =
    let same : held ≡ name = subst (λ one. IfSome one (λ n. held ≡ n)) there is in
    subst (IsFirstUnknown list logic) (sym same) first
