-- What a command answers for the files that it names, or for a job: its output and its exit status. A plate or a
-- program is read whole and checked before the next file is read. (The profile's own.)
use Rattle.std.specs.Prelude.{◌≡◌, ℕ, ◌⊎◌, List, Option, ◌<◌, ◌≤◌, Bool, true, length, Some, None, Result, Ok, Err, if◌then◌else◌}
use Rattle.std.specs.Io.KnownBytes.{Appends, Keeps}
use Rattle.wc_model.specs.Definitions.{JobAnswer, AnswersJob, AnswersPlate, AnswersProgram, after_report, refusing, run_answer, Sections, longest_job, plate_of, PlateData, IsLoaded, IsRefused, Text, LogOf, log_of, log_for, Logic, first_logic, IsUnitReport}
use Rattle.wc_plate.specs.TomlTable.{table_read}
use Rattle.wc_record.specs.Reading.{records_of}
use Rattle.wc_run.specs.{AppendsPrefix, report_written, Written}

-- an answer to a job: that of the definitions, over what `toml` and `csv` read
abbrev pub Allows : List ℕ → JobAnswer → Type 0
Allows bytes answer = AnswersJob table_read records_of bytes answer

-- an answer to the sections of a job: that of the definitions
abbrev pub AllowsSections : Sections → JobAnswer → Type 0
AllowsSections sections answer = AnswersPlate records_of sections (plate_of (table_read sections.plate)) answer

-- a status that says that something failed: a device, or the memory
abbrev pub IsFailure : ℕ → Type 0
IsFailure status = (status ≡ 3) ⊎ (status ≡ 4)

-- a status that a job may have
abbrev pub IsStatus : ℕ → Type 0
IsStatus status = (status ≡ 0) ⊎ (status ≡ 1) ⊎ (status ≡ 3) ⊎ (status ≡ 4)

-- An answer that is allowed was written whole, and the status is its own; or something failed, and
-- a prefix of such an answer was written, or nothing.
pub data Gives (allowed : JobAnswer → Type 0) (status : ℕ) (old new : Option (List ℕ)) : Type 0 where
  answered : (answer : JobAnswer) → allowed answer → status ≡ answer.status → Appends old new answer.output → Gives allowed status old new
  cut_short : (answer : JobAnswer) → allowed answer → IsFailure status → AppendsPrefix old new answer.output → Gives allowed status old new
  silent : IsFailure status → Keeps old new → Gives allowed status old new

-- a file that is longer than a job may be is refused; of any other the rest says what is answered
pub data AnswersFile (bytes : List ℕ) (rest : JobAnswer → Type 0) (answer : JobAnswer) : Type 0 where
  too_long : longest_job < length bytes → answer ≡ refusing 702 0 → AnswersFile bytes rest answer
  whole : length bytes ≤ longest_job → rest answer → AnswersFile bytes rest answer

-- a plate that breaks a rule is refused; with any other the rest says what is answered
abbrev pub AnswersPlateFile : Result PlateData ℕ → (PlateData → JobAnswer → Type 0) → JobAnswer → Type 0
AnswersPlateFile (Err number) rest answer = answer ≡ refusing number 0
AnswersPlateFile (Ok plate) rest answer = rest plate answer

-- what the plate's file has to say of a command that goes on with the plate
abbrev pub AnswersWithPlate : List ℕ → (PlateData → JobAnswer → Type 0) → JobAnswer → Type 0
AnswersWithPlate bytes rest answer = AnswersFile bytes (AnswersPlateFile (plate_of (table_read bytes)) rest) answer

-- what is written of a run by whoever observes it, and with which logic it begins
pub record Observed : Type 0 where
  pub written : Written
  pub begins : Option Logic → Bool

-- the report with every scan, or with the last n alone: whatever the logic, a run begins
abbrev pub report_observed : Option ℕ → Observed
report_observed last = record { written = report_written last; begins = λ logic. true }

-- what is answered that is written of a run with this logic or with none
abbrev pub answer_written : Written → PlateData → Option Logic → LogOf → JobAnswer
answer_written written plate logic log =
    let taken = log_for logic log in
    after_report (written plate logic taken.refusal taken.rows) taken.refusal

-- this is answered of a run that begins; any other is refused
abbrev pub IsAnswer : Observed → PlateData → Option Logic → LogOf → JobAnswer → Type 0
IsAnswer o plate logic log answer = answer ≡ (if o.begins logic then answer_written o.written plate logic log else refusing 401 0)

-- the answer of a run that begins with a text, and has a next one or none
abbrev pub AnswersPrinting : Observed → PlateData → LogOf → Text → Option Text → JobAnswer → Type 0
AnswersPrinting o plate log text next answer = IsAnswer o plate (Some (first_logic text next)) log answer

-- the report of a log that begins with a text, and has a next one or none, as a job has it
abbrev pub AnswersLog : PlateData → LogOf → Text → Option Text → JobAnswer → Type 0
AnswersLog plate log text next answer = answer ≡ run_answer plate (first_logic text next) log

-- the file of the next program, if there is one, is checked as the program's is, before any row
abbrev pub AnswersNextFile : Option (List ℕ) → (Option Text → JobAnswer → Type 0) → JobAnswer → Type 0
AnswersNextFile None rest answer = rest None answer
AnswersNextFile (Some next) rest answer = AnswersFile next (AnswersProgram next (λ text. rest (Some text))) answer

-- the program is loaded, then the next one, then the log is run
abbrev pub AnswersText : Observed → PlateData → List ℕ → Option (List ℕ) → LogOf → JobAnswer → Type 0
AnswersText o plate program next log answer =
    AnswersProgram program (λ text. AnswersNextFile next (AnswersPrinting o plate log text)) answer

-- the answer of a run with no program
abbrev pub IsLineAnswer : Observed → PlateData → LogOf → JobAnswer → Type 0
IsLineAnswer o plate log answer = IsAnswer o plate None log answer

-- the refusal of a text, or the report of its units
pub data AnswersCheck (paths : Bool) (program : List ℕ) (answer : JobAnswer) : Type 0 where
  refuses_text : (number line : ℕ) → IsRefused program number line → answer ≡ refusing number line → AnswersCheck paths program answer
  reports_units : (text : Text) (report : List ℕ) → IsLoaded program text → IsUnitReport paths text report →
      answer ≡ record { output = report; status = 0 } → AnswersCheck paths program answer

-- a run of a log with a program and a next one or none
abbrev pub AnswersRun : Observed → List ℕ → List ℕ → Option (List ℕ) → List ℕ → JobAnswer → Type 0
AnswersRun o plate program next log answer =
    AnswersWithPlate plate (λ read. AnswersFile program (AnswersText o read program next (log_of (records_of log)))) answer

-- a run of a log with no program
abbrev pub AnswersLine : Observed → List ℕ → List ℕ → JobAnswer → Type 0
AnswersLine o plate log answer = AnswersWithPlate plate (λ read. IsLineAnswer o read (log_of (records_of log))) answer

-- a check of a program
abbrev pub AnswersCheckFile : Bool → List ℕ → JobAnswer → Type 0
AnswersCheckFile paths program answer = AnswersFile program (AnswersCheck paths program) answer
