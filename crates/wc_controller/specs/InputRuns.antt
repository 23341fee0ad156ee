-- What a run does with its inputs, and how it ends. (The profile's own.)
use Rattle.std.specs.Prelude.{◌≡◌, ℕ, Option, Some, None, IfSome, IsSome, Result, true, false, is_some}
use Rattle.wc_controller.specs.Blames.{Blames, RefusesLog, RefusesProgram}
use Rattle.wc_controller.specs.Endings.{EndsAs, HasNotFailedIn, IsAt, RefusesPlate, TakesInput, ReportsFailures, ReportsMemory, ReportsReadEndings, ReportsWriteFaults, WritesUpTo, ending_of, raised}
use Rattle.wc_controller.specs.Files.{AnswersLine, AnswersRun, Observed}
use Rattle.wc_controller.specs.TakenLogs.{InputStates, Reader, Writer, IfKnown, failures_of, known_of, log_taken}
use Rattle.wc_controller.specs.declared.ending.Ending.{Ending}
use Rattle.wc_controller.specs.declared.ending.Ending.TheVariants as ended
use Rattle.wc_job.specs.declared.input.Input.TheVariants as input
use Rattle.wc_controller.specs.declared.ending.InputFault.{InputFault}
use Rattle.wc_model.specs.Definitions.{Record, JobAnswer}
use Rattle.wc_record.specs.Left.{HasCause}
use Rattle.wc_run.specs.{text_in_all, silent_plan}

-- this holds of the answers that are allowed for these inputs, with a program or with none, if the bytes of all that are read are known
abbrev pub OfAnswersTo : Observed → Reader → Option Reader → Option Reader → Reader → ((JobAnswer → Type 0) → Type 0) → Type 0
OfAnswersTo o plate None next log said =
    IfSome plate.bytes (λ table. IfSome log.bytes (λ bytes. said (AnswersLine o table bytes)))
OfAnswersTo o plate (Some program) next log said =
    IfSome plate.bytes (λ table. IfSome program.bytes (λ text. IfKnown next (λ known. IfSome log.bytes
    (λ bytes. said (AnswersRun o table text known bytes)))))

-- what holds of each answer to the inputs of a run
abbrev pub OfAnswers : Observed → InputStates → ((JobAnswer → Type 0) → Type 0) → Type 0
OfAnswers o inputs said = OfAnswersTo o inputs.plate inputs.program inputs.next inputs.log said

-- no more is taken of a plate or a program than the byte that makes it too long
pub record TakesInputs (before after : InputStates) : Type 0 where
  pub plate : TakesInput before.plate.bytes after.plate.bytes
  pub program : TakesInput (known_of before.program) (known_of after.program)
  pub next : TakesInput (known_of before.next) (known_of after.next)

-- The plate is read and checked, then the program, then the next program, then the log is run; and the ending names the input
-- at which that stopped:
--     blames_..     the input that a refusal names is the one that breaks the rule, and `reported` has the fields of a refused row
--     no_job        there is no job: what the ending names is one of these inputs
--     .._there      it names a program or a next one only if there is one, and a next one only if there is a program
--     unread_..     what follows the input that it names is not read; without a program the next one is not read;
--                   the log is not read if a name is refused that was to be observed
--     log_fault     a read fault names the log only if its reader failed, or as much was read as may be
--     log_read      if all was done, or a row is refused, the log's reader has not failed
pub record ReadsInOrder (before after : InputStates) (reported : Record) (ending : Ending) : Type 0 where
  pub blames_plate : Blames input.Plate RefusesPlate before.plate.bytes ending
  pub blames_program : Blames input.Program RefusesProgram (known_of before.program) ending
  pub blames_next : Blames input.Next RefusesProgram (known_of before.next) ending
  pub blames_log : Blames input.Log (RefusesLog (log_taken before) reported) before.log.bytes ending
  pub no_job : ¬ (IsAt input.Job ending)
  pub program_there : IsAt input.Program ending → IsSome before.program
  pub next_there : IsAt input.Next ending → IsSome before.program × IsSome before.next
  pub unread_after_plate : IsAt input.Plate ending → (after.program ≡ before.program) × (after.next ≡ before.next) × (after.log ≡ before.log)
  pub unread_after_program : IsAt input.Program ending → (after.next ≡ before.next) × (after.log ≡ before.log)
  pub unread_after_next : IsAt input.Next ending → after.log ≡ before.log
  pub unread_after_names : IsAt input.Names ending → after.log ≡ before.log
  pub unread_alone : is_some before.program ≡ false → after.next ≡ before.next
  pub log_fault : ending ≡ ended.ReadFault input.Log → HasCause before.log.failures after.log.failures before.log.spent after.log.spent
  pub log_read : HasNotFailedIn input.Log ending before.log.failures after.log.failures
  pub taken : TakesInputs before after

-- a read fault names the plate, the program or the next one if its reader failed, and only then
pub record ReportsReaders (before after : InputStates) (ending : Ending) : Type 0 where
  pub plate : ReportsReadEndings input.Plate ending before.plate.failures after.plate.failures
  pub program : ReportsReadEndings input.Program ending (failures_of before.program) (failures_of after.program)
  pub next : ReportsReadEndings input.Next ending (failures_of before.next) (failures_of after.next)

-- What a run of these inputs does:
--     ends         an answer that is allowed was written whole, and the ending says how it ends; or something failed, and a
--                  prefix of such an answer was written, or nothing
--     inputs       which inputs were read, and which one the ending names
--     readers      a read fault names the input whose reader failed
--     memory       a fault of the log's reader, or the limit on what is read, is not reported as out of memory
--     failures     a write fault is reported if the writer failed, and only then
pub record RunsAs (o : Observed) (before after : InputStates) (reported : Record) (ending : Ending) (old new : Writer) : Type 0 where
  pub ends : OfAnswers o before (λ allowed. EndsAs allowed ending old.taken new.taken)
  pub inputs : ReadsInOrder before after reported ending
  pub readers : ReportsReaders before after ending
  pub memory : ending ≡ ended.NoMemory
      → ReportsMemory (log_taken before) before.log.bytes before.log.failures after.log.failures before.log.spent after.log.spent
  pub failures : ReportsFailures ending old.failures new.failures

-- How far such a run came when it stopped, before the line of a refusal is written.
pub record RunsUpTo (o : Observed) (before after : InputStates) (reported : Record) (answer : Result (Unit {0}) InputFault) (old new : Writer) : Type 0 where
  pub writes : OfAnswers o before (λ allowed. WritesUpTo allowed (raised answer) old.taken new.taken)
  pub inputs : ReadsInOrder before after reported (ending_of answer)
  pub readers : ReportsReaders before after (ending_of answer)
  pub memory : ending_of answer ≡ ended.NoMemory
      → ReportsMemory (log_taken before) before.log.bytes before.log.failures after.log.failures before.log.spent after.log.spent
  pub failures : ReportsWriteFaults (raised answer) old.failures new.failures

-- So with an observer of whose bytes nothing is said, and which begins each run; of its writer the calls that failed are counted.
abbrev pub RunsUnsaid : InputStates → InputStates → Record → Ending → ℕ → ℕ → Type 0
RunsUnsaid before after reported ending failed_before failed =
    RunsAs (record { written = text_in_all silent_plan; begins = λ logic. true }) before after reported ending (record { taken = None; failures = failed_before })
    (record { taken = None; failures = failed })
