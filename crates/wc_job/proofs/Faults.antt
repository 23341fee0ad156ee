-- A fault of one read more ends the reading.
use Rattle.wc_model.proofs.Common.{ℕ, ◌+◌, ◌≤◌, List, ◌++◌, length, Option, Err, arith, length-append, Consumes-kept, Consumes-trans, Consumes}
use Rattle.wc_job.specs.Views.{Adds, IsOverTheLimit, TakesAtMost}
use Rattle.wc_job.specs.declared.reading.ReadFault.{ReadFault}
use Rattle.wc_job.specs.declared.reading.ReadFault.TheVariants.{TooLong, Read, Memory}
use Rattle.wc_model.specs.Run.JobSections.{longest_job}

-- it does not say that the job is too long
pub not_too_long : (known old new : Option (List ℕ)) (fault : ReadFault) (before after : List ℕ) → Adds old new (Err fault) before after → IsOverTheLimit known fault
not_too_long known old new TooLong before after h = absurd h
not_too_long known old new Read before after h = tt
not_too_long known old new Memory before after h = tt

-- no more is taken than may be
pub taken_at_fault : (first old new : Option (List ℕ)) (fault : ReadFault) (before after : List ℕ) → length before ≤ longest_job → Consumes first old before → Adds old new (Err fault) before after → TakesAtMost (longest_job + 1) first new
taken_at_fault first old new TooLong before after few taken h = absurd h
taken_at_fault first old new Read before after few taken h = (before, Consumes-kept first old new before taken h, omega arith)
taken_at_fault first old new Memory before after few taken h =
    (before ++ h.0, Consumes-trans first old new before h.0 taken h.1, omega (arith, length-append before h.0, h.2))
