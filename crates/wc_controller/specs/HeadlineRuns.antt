-- The headline of a run: for known bytes the text that is loaded, its headline, and that what is
-- written is what belongs to the rows of the log. (The profile's own.)
use Rattle.std.specs.Prelude.{◌≡◌, ⊤, ℕ, List, Option, Some, None, IfSome, Ok}
use Rattle.wc_controller.specs.Files.{AnswersRun, Observed, answer_written, Allows}
use Rattle.wc_controller.specs.Headline.{HasTheHeadline}
use Rattle.wc_controller.specs.TakenLogs.{InputStates, Reader, IfKnown}
use Rattle.wc_model.specs.Definitions.{plate_of, PlateData, IsLoaded, Text, Sections, sections_of, LogOf, log_of, JobAnswer, refusing, run_answer, AreRun, log_for, Logic, first_logic}
use Rattle.wc_plate.specs.TomlTable.{table_read}
use Rattle.wc_record.specs.Reading.{records_of}

-- the next text is loaded from these bytes, if there are any
abbrev pub IsNextOf : Option (List ℕ) → Option Text → Type 0
IsNextOf None None = ⊤
IsNextOf None (Some text) = ⊥
IsNextOf (Some bytes) None = ⊥
IsNextOf (Some bytes) (Some text) = IsLoaded bytes text

-- A run with a program, by its plate, the bytes of its programs, its log and what is answered with
-- each logic:
--     is_loaded   the text is what is loaded from the program's bytes
--     headline    with this plate it has the headline
--     is_next     the next text, if there is one, is loaded from its own bytes
--     are_run     of the log those rows are run of which the headline speaks
--     is_answer   the answer is that of a run of the text, from its declarations on
pub record RunsWithTheHeadline (plate : PlateData) (program : List ℕ) (next : Option (List ℕ)) (log : LogOf)
    (answered : Logic → JobAnswer) (answer : JobAnswer) : Type 0 where
  pub text : Text
  pub is_loaded : IsLoaded program text
  pub headline : HasTheHeadline plate text
  pub following : Option Text
  pub is_next : IsNextOf next following
  pub are_run : AreRun following (log_for (Some (first_logic text following)) log).rows
  pub is_answer : answer ≡ answered (first_logic text following)

-- what a job answers: nothing but a refusal, which it allows; or that of a run with the headline,
-- which is the report of the rows, with the refusal after them if there is one
pub data AnswersByTheHeadline (bytes : List ℕ) (answer : JobAnswer) : Type 0 where
  refuses : (number place : ℕ) → Allows bytes answer → answer ≡ refusing number place → AnswersByTheHeadline bytes answer
  runs : (sections : Sections) (plate : PlateData) → sections_of bytes ≡ Ok sections →
      plate_of (table_read sections.plate) ≡ Ok plate →
      RunsWithTheHeadline plate sections.program sections.next (log_of (records_of sections.log))
      (λ logic. run_answer plate logic (log_of (records_of sections.log))) answer → AnswersByTheHeadline bytes answer

-- so of a run of files, whoever observes it: what is answered is what is written of the rows
pub data RunsByTheHeadline (o : Observed) (table program : List ℕ) (next : Option (List ℕ)) (log : List ℕ)
    (answer : JobAnswer) : Type 0 where
  is_refused : (number place : ℕ) → AnswersRun o table program next log answer → answer ≡ refusing number place →
      RunsByTheHeadline o table program next log answer
  is_run : (plate : PlateData) → plate_of (table_read table) ≡ Ok plate →
      RunsWithTheHeadline plate program next (log_of (records_of log))
      (λ logic. answer_written o.written plate (Some logic) (log_of (records_of log))) answer →
      RunsByTheHeadline o table program next log answer

-- this holds of the answers of a run with a program, if the bytes of all that are read are known
abbrev pub OfProgramRuns : Observed → Reader → Option Reader → Option Reader → Reader → ((JobAnswer → Type 0) → Type 0) → Type 0
OfProgramRuns o plate None next log said = ⊤
OfProgramRuns o plate (Some program) next log said =
    IfSome plate.bytes (λ table. IfSome program.bytes (λ text. IfKnown next (λ known. IfSome log.bytes
    (λ bytes. said (RunsByTheHeadline o table text known bytes)))))

-- what is known of the inputs of a run
abbrev pub OfRunsByTheHeadline : Observed → InputStates → ((JobAnswer → Type 0) → Type 0) → Type 0
OfRunsByTheHeadline o inputs said = OfProgramRuns o inputs.plate inputs.program inputs.next inputs.log said
