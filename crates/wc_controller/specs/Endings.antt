-- How far an answer was written when a command stopped, and how it ended, also once the line of a refusal is written. (The profile's own.)
use Rattle.wc_controller.specs.declared.ending.Ending.TheVariants as ended
use Rattle.wc_job.specs.declared.input.Input.TheVariants as input
use Rattle.wc_job.specs.declared.reading.ReadFault.TheVariants as unread
use Rattle.std.specs.Prelude.{◌≡◌, ⊤, ℕ, ◌+◌, ◌<◌, ◌≤◌, ◌⊎◌, List, ◌++◌, length, Option, Some, None, IfSome, IsSome, Result, Ok, Err}
use Rattle.std.specs.Io.KnownBytes.{Appends, Keeps}
use Rattle.wc_job.specs.declared.input.Input.{Input}
use Rattle.wc_job.specs.Views.{TakesAtMost}
use Rattle.wc_job.specs.declared.reading.ReadFault.{ReadFault}
use Rattle.wc_model.specs.Definitions.{plate_of, PlateData, longest_job, LogOf, HasFailedSince, TakesPrefix, JobAnswer, refused_text}
use Rattle.wc_plate.specs.TomlTable.{table_read}
use Rattle.wc_record.specs.Left.{HasCause}
use Rattle.wc_run.specs.Runs.{AppendsPrefix, HasNotFailed, ReportsWrite}
use Rattle.wc_run.specs.declared.fault.RunFault.{RunFault}
use Rattle.wc_run.specs.declared.fault.RunFault.TheVariants.{Refused, Read, Write, Memory}
use Rattle.wc_controller.specs.declared.ending.Ending.{Ending}
use Rattle.wc_controller.specs.declared.ending.InputFault.{InputFault}

-- the fault with which something stopped, if it did
abbrev pub raised : {X : Type 0} → Result X InputFault → Option RunFault
raised (Ok x) = None
raised (Err stopped) = Some stopped.fault

-- the fault with which something stopped that has no input
abbrev pub fault_raised : {X : Type 0} → Result X RunFault → Option RunFault
fault_raised (Ok x) = None
fault_raised (Err fault) = Some fault

-- nothing was written, or a prefix of an answer that is allowed
abbrev pub WritesPrefix : (JobAnswer → Type 0) → Option (List ℕ) → Option (List ℕ) → Type 0
WritesPrefix allowed old new = Keeps old new ⊎ ((answer : JobAnswer) × allowed answer × AppendsPrefix old new answer.output)

-- an answer that is allowed was written: all of it; all but its refusal; at a fault a prefix of it, or nothing
abbrev pub WritesUpTo : (JobAnswer → Type 0) → Option RunFault → Option (List ℕ) → Option (List ℕ) → Type 0
WritesUpTo allowed None old new = (answer : JobAnswer) × allowed answer × (answer.status ≡ 0) × Appends old new answer.output
WritesUpTo allowed (Some (Refused number place)) old new =
    (report : List ℕ) × allowed (record { output = report ++ refused_text number place; status = 1 }) × Appends old new report
WritesUpTo allowed (Some fault) old new = WritesPrefix allowed old new

-- a file is refused only because it is too long
abbrev pub RefusesLength : Option (List ℕ) → RunFault → Type 0
RefusesLength known (Refused number place) = (number ≡ 702) × (place ≡ 0) × IfSome known (λ all. longest_job < length all)
RefusesLength known Read = ⊤
RefusesLength known Write = ⊥
RefusesLength known Memory = ⊤

-- why no plate was read of these bytes
abbrev pub RefusesPlate : List ℕ → RunFault → Type 0
RefusesPlate bytes (Refused number place) =
    (place ≡ 0) × (((number ≡ 702) × (longest_job < length bytes)) ⊎ ((length bytes ≤ longest_job) × (plate_of (table_read bytes) ≡ Err number)))
RefusesPlate bytes Read = ⊤
RefusesPlate bytes Write = ⊥
RefusesPlate bytes Memory = ⊤

-- no more is taken of an input than the byte that makes it too long
abbrev pub TakesInput : Option (List ℕ) → Option (List ℕ) → Type 0
TakesInput old new = TakesAtMost (longest_job + 1) old new

-- a plate that was read of these bytes, or why there is none
abbrev pub ReadsPlate : List ℕ → Result PlateData InputFault → Type 0
ReadsPlate bytes (Ok plate) = (length bytes ≤ longest_job) × (plate_of (table_read bytes) ≡ Ok plate)
ReadsPlate bytes (Err stopped) = RefusesPlate bytes stopped.fault

-- the fault of an input that was not read whole
abbrev pub whole_fault : ReadFault → RunFault
whole_fault unread.TooLong = Refused 702 0
whole_fault unread.Read = Read
whole_fault unread.Memory = Memory

-- the exit status of an ending
abbrev pub status_of : Ending → ℕ
status_of ended.Done = 0
status_of (ended.Refused input number place) = 1
status_of (ended.ReadFault input) = 3
status_of ended.WriteFault = 3
status_of ended.NoMemory = 4

-- an ending that says that a device or the memory failed
abbrev pub IsFailing : Ending → Type 0
IsFailing ended.Done = ⊥
IsFailing (ended.Refused input number place) = ⊥
IsFailing ending = ⊤

-- what an ending says about an answer that was written whole: that nothing is refused, or the refusal in its last line
abbrev pub IsEndingOf : JobAnswer → Ending → Type 0
IsEndingOf answer ended.Done = answer.status ≡ 0
IsEndingOf answer (ended.Refused input number place) =
    (report : List ℕ) × (answer ≡ record { output = report ++ refused_text number place; status = 1 })
IsEndingOf answer ending = ⊥

-- An answer that is allowed was written whole, and the ending says how it ends; or something failed, and a prefix of such an answer was written, or nothing.
pub data EndsAs (allowed : JobAnswer → Type 0) (ending : Ending) (old new : Option (List ℕ)) : Type 0 where
  answered : (answer : JobAnswer) → allowed answer → IsEndingOf answer ending → Appends old new answer.output → EndsAs allowed ending old new
  failed : IsFailing ending → WritesPrefix allowed old new → EndsAs allowed ending old new

-- the ending of a refusal, and what was written after the report
abbrev pub EndsRefused : Input → ℕ → ℕ → Ending → Option (List ℕ) → Option (List ℕ) → Type 0
EndsRefused input number place ended.Done old new = ⊥
EndsRefused input number place (ended.Refused at other line) old new =
    (at ≡ input) × (other ≡ number) × (line ≡ place) × Appends old new (refused_text number place)
EndsRefused input number place (ended.ReadFault at) old new = ⊥
EndsRefused input number place ended.WriteFault old new = TakesPrefix old new (refused_text number place)
EndsRefused input number place ended.NoMemory old new = Keeps old new

-- the ending of what stopped with a fault at an input, and what was written after
abbrev pub EndsAfterFault : Input → RunFault → Ending → Option (List ℕ) → Option (List ℕ) → Type 0
EndsAfterFault input (Refused number place) ending old new = EndsRefused input number place ending old new
EndsAfterFault input Read ending old new = (ending ≡ ended.ReadFault input) × Keeps old new
EndsAfterFault input Write ending old new = (ending ≡ ended.WriteFault) × Keeps old new
EndsAfterFault input Memory ending old new = (ending ≡ ended.NoMemory) × Keeps old new

-- the ending of whatever stopped, and what was written after
abbrev pub EndsAfter : {X : Type 0} → Result X InputFault → Ending → Option (List ℕ) → Option (List ℕ) → Type 0
EndsAfter (Ok done) ending old new = (ending ≡ ended.Done) × Keeps old new
EndsAfter (Err stopped) ending old new = EndsAfterFault stopped.input stopped.fault ending old new

-- the ending of a fault at an input, if the line of a refusal can be written
abbrev pub fault_ending : Input → RunFault → Ending
fault_ending input (Refused number place) = ended.Refused input number place
fault_ending input Read = ended.ReadFault input
fault_ending input Write = ended.WriteFault
fault_ending input Memory = ended.NoMemory

-- the ending of whatever is answered
abbrev pub ending_of : {X : Type 0} → Result X InputFault → Ending
ending_of (Ok done) = ended.Done
ending_of (Err stopped) = fault_ending stopped.input stopped.fault

-- a write fault is reported if the writer's failed calls rose, and only then
abbrev pub ReportsFailures : Ending → ℕ → ℕ → Type 0
ReportsFailures ending old new = (ending ≡ ended.WriteFault → HasFailedSince old new) × ((ending ≡ ended.WriteFault → ⊥) → new ≡ old)

-- a fault is a write fault if the writer's failed calls rose, and only then
abbrev pub ReportsWriteFaults : Option RunFault → ℕ → ℕ → Type 0
ReportsWriteFaults None old new = new ≡ old
ReportsWriteFaults (Some fault) old new = ReportsWrite fault old new

-- the input that is named if an observer does not begin: the names that it was to observe, or, when out of memory, the log
abbrev pub begin_fault_input : RunFault → Input
begin_fault_input (Refused number place) = input.Names
begin_fault_input fault = input.Log

-- it stopped at this input
abbrev pub StopsAt : {X : Type 0} → Input → Result X InputFault → Type 0
StopsAt input (Ok done) = ⊥
StopsAt input (Err stopped) = stopped.input ≡ input

-- it stopped because this input's reader failed
abbrev pub IsReadFaultAt : {X : Type 0} → Input → Result X InputFault → Type 0
IsReadFaultAt input (Ok done) = ⊥
IsReadFaultAt input (Err stopped) = (stopped.input ≡ input) × (stopped.fault ≡ Read)

-- a read fault is reported for this input if its reader's failed calls rose, and only then
abbrev pub ReportsReadFaults : {X : Type 0} → Input → Result X InputFault → ℕ → ℕ → Type 0
ReportsReadFaults input result old new = (IsReadFaultAt input result → HasFailedSince old new) × ((IsReadFaultAt input result → ⊥) → new ≡ old)

-- an ending is a read fault of this input if its reader's failed calls rose, and only then
abbrev pub ReportsReadEndings : Input → Ending → ℕ → ℕ → Type 0
ReportsReadEndings input ending old new = (ending ≡ ended.ReadFault input → HasFailedSince old new) × ((ending ≡ ended.ReadFault input → ⊥) → new ≡ old)

-- the fault at a log in memory: reading it fails only when out of memory
abbrev pub fault_in_memory : RunFault → RunFault
fault_in_memory Read = Memory
fault_in_memory fault = fault

-- the ending is that of this input
abbrev pub IsAt : Input → Ending → Type 0
IsAt input (ended.Refused at number place) = at ≡ input
IsAt input (ended.ReadFault at) = at ≡ input
IsAt input ending = ⊥

-- if all was done, or this input is refused, its reader has not failed
abbrev pub HasNotFailedAt : {X : Type 0} → Input → Result X InputFault → ℕ → ℕ → Type 0
HasNotFailedAt input (Ok done) old new = new ≤ old
HasNotFailedAt input (Err stopped) old new = stopped.input ≡ input → HasNotFailed (Err stopped.fault) old new

-- if by its ending all was done, or this input is refused, its reader has not failed
abbrev pub HasNotFailedIn : Input → Ending → ℕ → ℕ → Type 0
HasNotFailedIn input ended.Done old new = new ≤ old
HasNotFailedIn input (ended.Refused at number place) old new = at ≡ input → new ≤ old
HasNotFailedIn input ending old new = ⊤

-- Why out of memory may be reported for a command that has a log: nothing of the log was read; or
-- its reader has no cause to be reported as a fault; or the log is refused, its reader has not
-- failed, and the line that says so was not made.
pub data ReportsMemory (taken : List ℕ → LogOf) (known : Option (List ℕ)) (failures_before failures start spent : ℕ) : Type 0 where
  of_unread_log : spent ≡ start → ReportsMemory taken known failures_before failures start spent
  of_no_cause : (HasCause failures_before failures start spent → ⊥) → ReportsMemory taken known failures_before failures start spent
  of_refused_log : IfSome known (λ bytes. IsSome (taken bytes).refusal) → failures ≤ failures_before
      → ReportsMemory taken known failures_before failures start spent

-- with a fault of a write, or when out of memory
abbrev pub IsFaulty : Ending → Type 0
IsFaulty ending = (ending ≡ ended.WriteFault) ⊎ (ending ≡ ended.NoMemory)

-- as it ended, or with such a fault
abbrev pub IsEndedBy : Ending → Ending → Type 0
IsEndedBy ending shown = (shown ≡ ending) ⊎ IsFaulty shown
