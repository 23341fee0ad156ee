-- What a job answers: its output and its status. (The profile's own.) What `toml` and `csv` read of bytes is given.
use Rattle.std.specs.Prelude.{◌≡◌, ℕ, List, [], ◌∷◌, ◌++◌, Option, Some, None, Result, Ok, Err, codes, decimal}
use Rattle.wc_model.specs.Run.JobSections.{Sections, sections_of}
use Rattle.wc_model.specs.Language.Loading.{IsLoaded, IsRefused}
use Rattle.wc_model.specs.Run.Log.{Record, LogOf, LogRefusal, log_of}
use Rattle.wc_model.specs.Instrument.PlateTable.{Table, plate_of}
use Rattle.wc_model.specs.Instrument.Plates.{PlateData}
use Rattle.wc_model.specs.Say.LogFor.{log_for}
use Rattle.wc_model.specs.Say.ProgramReport.{Logic, first_logic, program_report}
use Rattle.wc_model.specs.Language.Tree.{Text}

-- `refused`, the number and the place
abbrev pub refused_text : ℕ → ℕ → List ℕ
refused_text number place = codes "refused " ++ decimal number ++ codes " " ++ decimal place ++ (10 ∷ [])

-- an output with its exit status
pub record JobAnswer : Type 0 where
  pub output : List ℕ
  pub status : ℕ

-- nothing but the refusal
abbrev pub refusing : ℕ → ℕ → JobAnswer
refusing number place = record { output = refused_text number place; status = 1 }

-- the report of the rows up to the first refused one, and the refusal after it
abbrev pub after_report : List ℕ → Option LogRefusal → JobAnswer
after_report text None = record { output = text; status = 0 }
after_report text (Some refusal) = record { output = text ++ refused_text refusal.number refusal.row; status = 1 }

-- the answer of a run with this logic
abbrev pub run_answer : PlateData → Logic → LogOf → JobAnswer
run_answer plate logic log =
    let taken = log_for (Some logic) log in
    after_report (program_report plate logic taken.rows) taken.refusal

-- the refusal of a program's text, or what is answered with it once it is loaded
pub data AnswersProgram (program : List ℕ) (rest : Text → JobAnswer → Type 0) (answer : JobAnswer) : Type 0 where
  refuses_program : (number line : ℕ) → IsRefused program number line → answer ≡ refusing number line → AnswersProgram program rest answer
  loads_program : (text : Text) → IsLoaded program text → rest text answer → AnswersProgram program rest answer

-- the next program, if there is one, is checked as the first is, before any row
abbrev pub AnswersNext : Option (List ℕ) → (Option Text → JobAnswer → Type 0) → JobAnswer → Type 0
AnswersNext None rest answer = rest None answer
AnswersNext (Some next) rest answer = AnswersProgram next (λ text. rest (Some text)) answer

-- the program is read first, then the next one, then the log is run
abbrev pub AnswersPrograms : (Logic → JobAnswer) → List ℕ → Option (List ℕ) → JobAnswer → Type 0
AnswersPrograms ran program next answer =
    AnswersProgram program (λ text. AnswersNext next (λ other one. one ≡ ran (first_logic text other))) answer

-- the plate is read first, then the programs, then the log
abbrev pub AnswersPlate : (List ℕ → List Record) → Sections → Result PlateData ℕ → JobAnswer → Type 0
AnswersPlate records_of sections (Err number) answer = answer ≡ refusing number 0
AnswersPlate records_of sections (Ok plate) answer =
    AnswersPrograms (λ logic. run_answer plate logic (log_of (records_of sections.log))) sections.program sections.next answer

abbrev pub AnswersSections : (List ℕ → Option Table) → (List ℕ → List Record) → Result Sections ℕ → JobAnswer → Type 0
AnswersSections table_of records_of (Err number) answer = answer ≡ refusing number 0
AnswersSections table_of records_of (Ok sections) answer = AnswersPlate records_of sections (plate_of (table_of sections.plate)) answer

-- what the job of these bytes answers
abbrev pub AnswersJob : (List ℕ → Option Table) → (List ℕ → List Record) → List ℕ → JobAnswer → Type 0
AnswersJob table_of records_of bytes answer = AnswersSections table_of records_of (sections_of bytes) answer
