-- If a device failed, that is reported; of an observer whose bytes are not known nothing is said but with which faults it fails.
use Rattle.std.proofs.Common.{refl, ℕ, List, [], Option, None, Result, Ok, Err, ◌≡◌, true, false}
use Rattle.wc_run.specs.{Writes, is_cut_short, HasNotFailed, ReportsWrites}
use Rattle.wc_run.specs.declared.fault.RunFault.{RunFault}
use Rattle.wc_run.specs.declared.fault.RunFault.TheVariants.{Refused, Read, Write, Memory}

pub silent : {X : Type 0} (answer : Result X RunFault) (text : List ℕ) (old new : Option (List ℕ)) → Writes text answer old new → Writes [] answer None None
silent (Ok x) text old new writes = tt
silent (Err (Refused number place)) text old new writes = writes
silent (Err Read) text old new writes = writes
silent (Err Write) text old new writes = ([], [], refl, tt)
silent (Err Memory) text old new writes = tt

-- of a run that was cut short nothing is said of its reader
pub short_says_nothing : (answer : Result ℕ RunFault) (old new : ℕ) → is_cut_short answer ≡ true → HasNotFailed answer old new
short_says_nothing (Ok count) old new short = absurd (cc)
short_says_nothing (Err (Refused number place)) old new short = absurd (cc)
short_says_nothing (Err fault) old new short = tt

-- of a run that was not cut short the writer has not failed
pub whole_writes : (answer : Result ℕ RunFault) (old new : ℕ) → is_cut_short answer ≡ false → ReportsWrites answer old new → new ≡ old
whole_writes (Ok count) old new whole says = says
whole_writes (Err Write) old new whole says = absurd (cc)
whole_writes (Err fault) old new whole says = says
