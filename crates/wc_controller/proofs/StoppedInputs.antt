-- What an ending says of the input at which a run stopped.
use Rattle.wc_model.proofs.Common.{◌≡◌, ℕ, List, [], refl, ap, subst, sym, arith, inl, Consumes-nil}
use Rattle.std.specs.Prelude.{Option, Some, None, IfSome, Err}
use Rattle.wc_controller.proofs.Blaming.{IsOne, one_input}
use Rattle.wc_controller.specs.Blames.{Blames, RefusesProgram}
use Rattle.wc_controller.specs.Endings.{HasNotFailedIn, IsAt, RefusesLength, TakesInput, ReportsReadEndings, ReportsReadFaults, fault_ending, status_of}
use Rattle.wc_controller.specs.declared.ending.Ending.TheVariants as ended
use Rattle.wc_controller.specs.declared.ending.Ending.{Ending}
use Rattle.wc_job.specs.declared.input.Input.{Input}
use Rattle.wc_controller.specs.declared.ending.InputFault.{InputFault}
use Rattle.wc_run.specs.Runs.{HasNotFailed}
use Rattle.wc_run.specs.declared.fault.RunFault.{RunFault}
use Rattle.wc_run.specs.declared.fault.RunFault.TheVariants.{Refused, Read, Write, Memory}

-- an input is not another
pub apart : (one other : Input) → one ≡ other → IsOne one other
apart one other e = one_input one other one refl e

-- it blames the input at which it stopped
pub blamed_by : (at input : Input) (refuses : List ℕ → RunFault → Type 0) (known : Option (List ℕ)) (why : RunFault)
    → (at ≡ input → IfSome known (λ bytes. refuses bytes why)) → Blames input refuses known (fault_ending at why)
blamed_by at input refuses known (Refused number place) h = h
blamed_by at input refuses known Read h = tt
blamed_by at input refuses known Write h = tt
blamed_by at input refuses known Memory h = tt

-- and names no other
pub named_by : (at input : Input) (why : RunFault) → IsAt input (fault_ending at why) → at ≡ input
named_by at input (Refused number place) h = h
named_by at input Read h = h
named_by at input Write h = absurd h
named_by at input Memory h = absurd h

-- an ending that names no input is not a read fault
pub no_read_fault : (input : Input) (ending : Ending) → (IsAt input ending → ⊥) → ending ≡ ended.ReadFault input → ⊥
no_read_fault input ending none e = none (subst (λ one. IsAt input one) (sym e) refl)

-- a read fault is named with the input whose reader failed
pub read_by : (at input : Input) (why : RunFault) → fault_ending at why ≡ ended.ReadFault input → (at ≡ input) × (why ≡ Read)
read_by at input (Refused number place) e = absurd (omega (arith, ap status_of e))
read_by at input Read e = (subst (λ one. IsAt input one) (sym e) refl, refl)
read_by at input Write e = absurd (no_read_fault input ended.WriteFault (λ h. h) e)
read_by at input Memory e = absurd (no_read_fault input ended.NoMemory (λ h. h) e)

-- out of memory comes from out of memory
pub memory_by : (at : Input) (why : RunFault) → fault_ending at why ≡ ended.NoMemory → why ≡ Memory
memory_by at (Refused number place) e = absurd (omega (arith, ap status_of e))
memory_by at Read e = absurd (omega (arith, ap status_of e))
memory_by at Write e = absurd (omega (arith, ap status_of e))
memory_by at Memory e = refl

-- after a refusal a reader has not failed
pub read_on_by : (at input : Input) (why : RunFault) (old new : ℕ) → (at ≡ input → HasNotFailed (Err why) old new) → HasNotFailedIn input (fault_ending at why) old new
read_on_by at input (Refused number place) old new h = h
read_on_by at input Read old new h = tt
read_on_by at input Write old new h = tt
read_on_by at input Memory old new h = tt

-- a read fault is reported where it came
pub reported_by : (stopped : InputFault) (input : Input) (old new : ℕ) → ReportsReadFaults {X = Unit {0}} input (Err stopped) old new
    → ReportsReadEndings input (fault_ending stopped.input stopped.fault) old new
reported_by stopped input old new h = (λ e. h.0 (read_by stopped.input input stopped.fault e), λ no. h.1 (λ is. no (λ i. fault_ending (is.0 i) (is.1 i))))

-- for another input none is reported
pub untold_by : (at input : Input) (why : RunFault) (old new : ℕ) → (at ≡ input → ⊥) → new ≡ old → ReportsReadEndings input (fault_ending at why) old new
untold_by at input why old new other same = (λ e. absurd (other ((read_by at input why e).0)), λ no. same)

-- of what is not read nothing is taken
pub none_taken : (known : Option (List ℕ)) → TakesInput known known
none_taken known = ([], Consumes-nil known, omega arith)

-- a file that is too long breaks the rule of a program
pub length_refused : (known : Option (List ℕ)) (why : RunFault) → RefusesLength known why → IfSome known (λ bytes. RefusesProgram bytes why)
length_refused None why h = tt
length_refused (Some bytes) (Refused number place) h = inl (h.0, h.1, h.2)
length_refused (Some bytes) Read h = tt
length_refused (Some bytes) Write h = absurd h
length_refused (Some bytes) Memory h = tt
