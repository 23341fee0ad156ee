-- What an observer says of the bytes that were written of a run that came to its log's end, or to a refused row. (The profile's own.)
use Rattle.std.specs.Prelude.{◌≡◌, ◌≢◌, ⊤, ℕ, List, Option, Some, None, IfSome, Result, Ok, Err, option_map}
use Rattle.std.specs.Io.KnownBytes.{Appends, Keeps}
use Rattle.wc_controller.specs.TakenLogs.{InputStates, Reader, IfKnown, OfLogic, log_by}
use Rattle.wc_controller.specs.declared.loaded.RunPrograms.{RunPrograms}
use Rattle.wc_controller.specs.declared.ending.Ending.{Ending}
use Rattle.wc_controller.specs.declared.ending.Ending.TheVariants as ended
use Rattle.wc_job.specs.declared.input.Input.TheVariants as input
use Rattle.wc_controller.specs.declared.ending.InputFault.{InputFault}
use Rattle.wc_model.specs.Definitions.{plate_of, PlateData, IsLoaded, Text, LogOf, refused_text, Logic}
use Rattle.wc_plate.specs.TomlTable.{table_read}
use Rattle.wc_run.specs.{Ended, Start, loaded_of, logic_of}
use Rattle.wc_run.specs.declared.fault.RunFault.{RunFault}
use Rattle.wc_run.specs.declared.fault.RunFault.TheVariants.{Refused}
use Rattle.wc_run.specs.declared.program.Program.{Program}

-- the text of the next program of a run, if there is one
abbrev pub next_text : RunPrograms → Option (List ℕ)
next_text programs = option_map (λ text. text.now) programs.next

-- the logic of the programs that an observer is shown
abbrev pub logic_shown : Option Program → Option Program → Option Logic
logic_shown first next = logic_of (loaded_of first) (loaded_of next)

-- this holds of what a run begins with, and of its logic, if the bytes of its programs are known
abbrev pub OfStart : Option Reader → Option Reader → Option (List ℕ) → (Start → Option Logic → Type 0) → Type 0
OfStart None next taken said = said (record { first = None; next = None; taken = taken }) None
OfStart (Some program) next taken said =
    IfSome program.bytes (λ text. IfKnown next (λ known. (first : Text) × IsLoaded text first × OfLogic first known (said (record { first = Some text; next = known; taken = taken }))))

-- this holds of a run of these inputs, with its plate, its logic and its log, if their bytes are known
abbrev pub OfRun : InputStates → Option (List ℕ) → (Start → PlateData → Option Logic → LogOf → Type 0) → Type 0
OfRun inputs taken said =
    IfSome inputs.plate.bytes (λ table. (plate : PlateData) × (plate_of (table_read table) ≡ Ok plate)
    × OfStart inputs.program inputs.next taken (λ start logic. IfSome inputs.log.bytes (λ bytes. said start plate logic (log_by logic bytes))))

-- this holds if a run did not stop with another fault than a refusal
abbrev pub OnRefusal : RunFault → Type 0 → Type 0
OnRefusal (Refused number place) said = said
OnRefusal fault said = ⊤

-- and this if it came to the log's end, or to a refused row
abbrev pub OnEnd : {X : Type 0} → Result X InputFault → Type 0 → Type 0
OnEnd (Ok done) said = said
OnEnd (Err stopped) said = stopped.input ≡ input.Log → OnRefusal stopped.fault said

-- what an observer says of what is written of such a log
abbrev pub says_of : Ended → Option (List ℕ) → Start → PlateData → Option Logic → LogOf → Type 0
says_of ended taken start plate logic log = ended start taken plate logic log.rows log.refusal

-- if a run stopped at an input before its log, or at the names to observe, nothing was written
abbrev pub IsUnwritten : {X : Type 0} → Result X InputFault → Option (List ℕ) → Option (List ℕ) → Type 0
IsUnwritten (Ok done) old new = ⊤
IsUnwritten (Err stopped) old new = stopped.input ≢ input.Log → new ≡ old

-- nor was anything at an ending before the log after which no line of a refusal is written
abbrev pub EndsUnwritten : Ending → Option (List ℕ) → Option (List ℕ) → Type 0
EndsUnwritten (ended.Refused at number place) old new = at ≢ input.Log → new ≡ old
EndsUnwritten (ended.ReadFault at) old new = at ≢ input.Log → new ≡ old
EndsUnwritten ending old new = ⊤

-- What it says of what was written of a run of these inputs that ended so: after a refused row the line of the refusal follows
-- it. Of another input that is refused, or of names, the line of the refusal is all that was written; if such an input could not
-- be read, nothing was.
abbrev pub EndsSaying : Ended → InputStates → Ending → Option (List ℕ) → Option (List ℕ) → Type 0
EndsSaying said inputs ended.Done old new = (taken : Option (List ℕ)) × Keeps taken new × OfRun inputs old (says_of said taken)
EndsSaying said inputs (ended.Refused at number place) old new =
    (at ≡ input.Log → (taken : Option (List ℕ)) × Appends taken new (refused_text number place) × OfRun inputs old (says_of said taken))
    × (at ≢ input.Log → Appends old new (refused_text number place))
EndsSaying said inputs (ended.ReadFault at) old new = at ≢ input.Log → Keeps old new
EndsSaying said inputs ending old new = ⊤
