-- What a refusal says of the input that it names. (The profile's own.)
use Rattle.std.specs.Prelude.{◌≡◌, ⊤, ℕ, ◌<◌, ◌≤◌, ◌⊎◌, List, length, Option, Some, None, IfSome, is_some, Result, Ok, Err}
use Rattle.wc_controller.specs.TakenLogs.{log_alongside}
use Rattle.wc_controller.specs.declared.ending.Ending.{Ending}
use Rattle.wc_controller.specs.declared.ending.Ending.TheVariants as ended
use Rattle.wc_job.specs.declared.input.Input.{Input}
use Rattle.wc_job.specs.declared.input.Input.TheVariants as input
use Rattle.wc_controller.specs.declared.ending.InputFault.{InputFault}
use Rattle.wc_model.specs.Definitions.{plate_of, IsRefused, Sections, longest_job, LogOf, Record}
use Rattle.wc_plate.specs.TomlTable.{table_read}
use Rattle.wc_record.specs.Reported.{record_at, records_read}
use Rattle.wc_run.specs.declared.fault.RunFault.{RunFault}
use Rattle.wc_run.specs.declared.fault.RunFault.TheVariants.{Refused, Memory}

-- a text is refused for its first fault
abbrev pub RefusesText : List ℕ → RunFault → Type 0
RefusesText bytes (Refused number place) = IsRefused bytes number place
RefusesText bytes fault = ⊤

-- no text is loaded of these bytes: it is refused for its first fault, or memory is wanted
abbrev pub IsUnloaded : List ℕ → RunFault → Type 0
IsUnloaded bytes (Refused number place) = IsRefused bytes number place
IsUnloaded bytes Memory = ⊤
IsUnloaded bytes fault = ⊥

-- so of a next text, which there is
abbrev pub IsNextUnloaded : Option (List ℕ) → RunFault → Type 0
IsNextUnloaded None fault = ⊥
IsNextUnloaded (Some bytes) fault = IsUnloaded bytes fault

-- a program's file is refused because it is too long, else for the first fault of its text
abbrev pub RefusesProgram : List ℕ → RunFault → Type 0
RefusesProgram bytes (Refused number place) =
    ((number ≡ 702) × (place ≡ 0) × (longest_job < length bytes)) ⊎ ((length bytes ≤ longest_job) × IsRefused bytes number place)
RefusesProgram bytes fault = ⊤

-- a log is refused at its first row that breaks a rule, as the command takes it, and these are the fields of that row: the
-- record of its number
abbrev pub RefusesLog : (List ℕ → LogOf) → Record → List ℕ → RunFault → Type 0
RefusesLog taken reported bytes (Refused number place) =
    ((taken bytes).refusal ≡ Some (record { number = number; row = place })) × (reported ≡ record_at (records_read bytes) place)
RefusesLog taken reported bytes fault = ⊤

-- what stopped at this input is a refusal of its bytes, if it is one
abbrev pub StopsFor : {X : Type 0} → Input → (List ℕ → RunFault → Type 0) → Option (List ℕ) → Result X InputFault → Type 0
StopsFor input refuses known (Ok done) = ⊤
StopsFor input refuses known (Err stopped) = stopped.input ≡ input → IfSome known (λ bytes. refuses bytes stopped.fault)

-- an ending that names this input with a refusal says what its bytes break
abbrev pub Blames : Input → (List ℕ → RunFault → Type 0) → Option (List ℕ) → Ending → Type 0
Blames input refuses known (ended.Refused at number place) = at ≡ input → IfSome known (λ bytes. refuses bytes (Refused number place))
Blames input refuses known ending = ⊤

-- What a refusal says of the part of a job that it names: the job has not its sections; the plate
-- breaks that rule first; the program, or the next one, has that first fault; the log has that first
-- refused row, whose fields are reported.
abbrev pub RefusesPart : Record → Result Sections ℕ → Input → ℕ → ℕ → Type 0
RefusesPart reported (Err missing) at number place = (at ≡ input.Job) × (number ≡ missing) × (place ≡ 0)
RefusesPart reported (Ok sections) input.Job number place = ⊥
RefusesPart reported (Ok sections) input.Names number place = ⊥
RefusesPart reported (Ok sections) input.Plate number place = (place ≡ 0) × (plate_of (table_read sections.plate) ≡ Err number)
RefusesPart reported (Ok sections) input.Program number place = IsRefused sections.program number place
RefusesPart reported (Ok sections) input.Next number place = (next : List ℕ) × (sections.next ≡ Some next) × IsRefused next number place
RefusesPart reported (Ok sections) input.Log number place = RefusesLog (log_alongside (is_some sections.next)) reported sections.log (Refused number place)

-- what stopped at a part of a job is a refusal of that part, if it is one
abbrev pub StopsAsPart : Record → Result Sections ℕ → Input → RunFault → Type 0
StopsAsPart reported parts at (Refused number place) = RefusesPart reported parts at number place
StopsAsPart reported parts at fault = ⊤

-- whatever stopped at a part of a job is a refusal of that part, if it is one
abbrev pub StopsForPart : {X : Type 0} → Record → Result Sections ℕ → Result X InputFault → Type 0
StopsForPart reported parts (Ok done) = ⊤
StopsForPart reported parts (Err stopped) = StopsAsPart reported parts stopped.input stopped.fault

-- an ending of a job that names a part with a refusal says what that part breaks
abbrev pub BlamesPart : Record → Result Sections ℕ → Ending → Type 0
BlamesPart reported parts (ended.Refused at number place) = RefusesPart reported parts at number place
BlamesPart reported parts ending = ⊤
