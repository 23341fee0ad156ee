-- What is so of a run whose observer does not begin: it refuses, or memory is wanted.
use Rattle.wc_model.proofs.Common.{◌≡◌, ℕ, List, Bool, Option, Err, refl, arith, IfSome}
use Rattle.wc_controller.proofs.Allowing.{on_each}
use Rattle.wc_controller.proofs.Blaming.{IsOne, one_input}
use Rattle.wc_controller.specs.{RefusesLog, begin_fault_input}
use Rattle.wc_job.specs.declared.input.Input.{Input}
use Rattle.wc_job.specs.declared.input.Input.TheVariants as input
use Rattle.wc_model.specs.Run.Log.{LogOf, Record}
use Rattle.wc_run.specs.{RefusesToBegin, HasNotFailed, ReportsWrite}
use Rattle.wc_run.specs.declared.fault.RunFault.{RunFault}
use Rattle.wc_run.specs.declared.fault.RunFault.TheVariants.{Refused, Read, Write, Memory}

-- it stopped at its names or at the log, and at no other input
pub elsewhere : (why : RunFault) (other : Input) → (IsOne input.Names other → ⊥) → (IsOne input.Log other → ⊥) → begin_fault_input why ≡ other → ⊥
elsewhere (Refused number place) other names log at = names (one_input input.Names other input.Names refl at)
elsewhere Read other names log at = log (one_input input.Log other input.Log refl at)
elsewhere Write other names log at = log (one_input input.Log other input.Log refl at)
elsewhere Memory other names log at = log (one_input input.Log other input.Log refl at)

-- the log is not refused
pub unblamed : (why : RunFault) (begins : Bool) (held : Type 0) (taken : List ℕ → LogOf) (fields : Record) (known : Option (List ℕ))
    → RefusesToBegin begins held why → begin_fault_input why ≡ input.Log → IfSome known (λ bytes. RefusesLog taken fields bytes why)
unblamed (Refused number place) begins held taken fields known h at = absurd (cc (at))
unblamed Read begins held taken fields known h at = absurd h
unblamed Write begins held taken fields known h at = absurd h
unblamed Memory begins held taken fields known h at = on_each known _ (λ bytes. tt)

-- it is no read fault
pub not_by_reader : (why : RunFault) (begins : Bool) (held : Type 0) → RefusesToBegin begins held why → why ≡ Read → ⊥
not_by_reader (Refused number place) begins held h e = cc (e)
not_by_reader Read begins held h e = h
not_by_reader Write begins held h e = h
not_by_reader Memory begins held h e = cc (e)

-- the reader of the log is as it was
pub reader_kept : (why : RunFault) (count : ℕ) → HasNotFailed (Err why) count count
reader_kept (Refused number place) count = omega arith
reader_kept Read count = tt
reader_kept Write count = tt
reader_kept Memory count = tt

-- and the writer
pub writer_kept : (why : RunFault) (begins : Bool) (held : Type 0) → RefusesToBegin begins held why → (count : ℕ) → ReportsWrite why count count
writer_kept (Refused number place) begins held h count = refl
writer_kept Read begins held h count = refl
writer_kept Write begins held h count = absurd h
writer_kept Memory begins held h count = refl
