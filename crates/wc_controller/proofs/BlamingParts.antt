-- A refusal of a job names the part that breaks the rule.
use Rattle.std.proofs.Common.{◌≡◌, ℕ, List, Result, Ok, Err, refl, sym, subst}
use Rattle.std.specs.Prelude.{Option, Some, None, is_some}
use Rattle.wc_controller.specs.{BlamesPart, IsNextUnloaded, IsUnloaded, RefusesLog, RefusesPart, StopsAsPart, StopsForPart, EndsAfter, EndsAfterFault, EndsRefused, fault_in_memory, log_alongside}
use Rattle.wc_controller.specs.declared.ending.Ending.{Ending}
use Rattle.wc_controller.specs.declared.ending.Ending.TheVariants as ended
use Rattle.wc_job.specs.declared.input.Input.{Input}
use Rattle.wc_job.specs.declared.input.Input.TheVariants as input
use Rattle.wc_controller.specs.declared.ending.InputFault.{InputFault}
use Rattle.wc_model.specs.Definitions.{plate_of, IsRefused, Sections, Record}
use Rattle.wc_model.specs.declared.fault.Fault.{Fault}
use Rattle.wc_model.specs.declared.fault.Fault.TheVariants as fault
use Rattle.wc_plate.specs.TomlTable.{table_read}
use Rattle.wc_plate.specs.Verdict.{AgreesWith}
use Rattle.wc_run.specs.Doing.{from_fault}
use Rattle.wc_run.specs.declared.fault.RunFault.{RunFault}
use Rattle.wc_run.specs.declared.fault.RunFault.TheVariants.{Refused, Memory}

-- a plate that is refused
pub plate_part : (reported : Record) (sections : Sections) (why : Fault) → AgreesWith (plate_of (table_read sections.plate)) (Err why)
    → StopsAsPart reported (Ok sections) input.Plate (from_fault why)
plate_part reported sections (fault.Refused number place) h = (h.1, h.0)
plate_part reported sections fault.Memory h = tt

-- a program that is not loaded
pub program_part : (reported : Record) (sections : Sections) (why : RunFault) → IsUnloaded sections.program why → StopsAsPart reported (Ok sections) input.Program why
program_part reported sections (Refused number place) h = h
program_part reported sections why h = tt

-- a next program that is refused is there
next_part : (next : Option (List ℕ)) (number place : ℕ) → IsNextUnloaded next (Refused number place) → (bytes : List ℕ) × (next ≡ Some bytes) × IsRefused bytes number place
next_part None number place h = absurd h
next_part (Some bytes) number place h = (bytes, refl, h)

-- a run after its program that is stopped
pub run_part : (reported : Record) (sections : Sections) (at : Input) (why : RunFault) → (at ≡ input.Next → IsNextUnloaded sections.next why)
    → (at ≡ input.Log → RefusesLog (log_alongside (is_some sections.next)) reported sections.log why)
    → ((at ≡ input.Job → ⊥) × (at ≡ input.Plate → ⊥) × (at ≡ input.Program → ⊥)) → (at ≡ input.Names → ⊥) → StopsAsPart reported (Ok sections) at (fault_in_memory why)
run_part reported sections input.Job why next log later names = absurd (later.0 refl)
run_part reported sections input.Plate why next log later names = absurd (later.1 refl)
run_part reported sections input.Program why next log later names = absurd (later.2 refl)
run_part reported sections input.Names why next log later names = absurd (names refl)
run_part reported sections input.Next (Refused number place) next log later names = next_part sections.next number place (next refl)
run_part reported sections input.Log (Refused number place) next log later names = log refl
run_part reported sections at why next log later names = tt

-- an ending of a refusal
of_refusal : (reported : Record) (parts : Result Sections ℕ) (at : Input) (number place : ℕ) (ending : Ending) (old new : Option (List ℕ))
    → EndsRefused at number place ending old new → RefusesPart reported parts at number place → BlamesPart reported parts ending
of_refusal reported parts at number place (ended.Refused one other line) old new k h =
    subst (λ a. RefusesPart reported parts a other line) (sym k.0)
    (subst (λ n. RefusesPart reported parts at n line) (sym k.1) (subst (λ l. RefusesPart reported parts at number l) (sym k.2) h))
of_refusal reported parts at number place ending old new k h = tt

-- an ending of whatever fault
of_fault : (reported : Record) (parts : Result Sections ℕ) (at : Input) (why : RunFault) (ending : Ending) (old new : Option (List ℕ))
    → EndsAfterFault at why ending old new → StopsAsPart reported parts at why → BlamesPart reported parts ending
of_fault reported parts at (Refused number place) ending old new k h = of_refusal reported parts at number place ending old new k h
of_fault reported parts at why ending old new k h = subst (λ e. BlamesPart reported parts e) (sym k.0) tt

-- an ending says of a part of a job what stopped there
pub blamed_part : {X : Type 0} (reported : Record) (parts : Result Sections ℕ) (result : Result X InputFault) (ending : Ending) (old new : Option (List ℕ))
    → EndsAfter result ending old new → StopsForPart reported parts result → BlamesPart reported parts ending
blamed_part reported parts (Ok done) ending old new k h = subst (λ e. BlamesPart reported parts e) (sym k.0) tt
blamed_part reported parts (Err stopped) ending old new k h = of_fault reported parts stopped.input stopped.fault ending old new k h
