-- What is answered of a run with a program is answered by the headline.
use Rattle.std.proofs.Common.{◌≡◌, ℕ, Bool, true, false, List, Ok, Err, refl}
use Rattle.std.specs.Prelude.{Option, Some, None, Result, if◌then◌else◌}
use Rattle.wc_controller.proofs.Allowing.{known_more, on_known}
use Rattle.wc_controller.proofs.Givings.{ends_more}
use Rattle.wc_controller.proofs.LoadedTexts.{headline_holds}
use Rattle.wc_controller.specs.{AnswersFile, AnswersNextFile, AnswersPlateFile, AnswersPrinting, AnswersRun, AnswersText, Observed, answer_written, too_long, whole, Allows, AnswersByTheHeadline, IsNextOf, OfRunsByTheHeadline, RunsByTheHeadline, RunsWithTheHeadline, is_refused, is_run, refuses, runs, OfAnswers, InputStates, Reader, EndsAs}
use Rattle.wc_controller.specs.declared.ending.Ending.{Ending}
use Rattle.wc_laws_instrument.proofs.Changes.{rows_are_run}
use Rattle.wc_model.specs.Definitions.{plate_of, PlateData, IsLoaded, Text, Sections, sections_of, LogOf, log_of, AnswersNext, AnswersPlate, AnswersPrograms, AnswersSections, JobAnswer, loads_program, refuses_program, refusing, run_answer, Logic, first_logic}
use Rattle.wc_plate.specs.TomlTable.{table_read}
use Rattle.wc_record.specs.Reading.{records_of}

-- an answer is a refusal and nothing else, or what one says of it
data Either (answer : JobAnswer) (Runs : Type 0) : Type 0 where
  refused : (number place : ℕ) → answer ≡ refusing number place → Either answer Runs
  ran : Runs → Either answer Runs

-- the answer of a text that is loaded, with its next one
with_headline : (plate : PlateData) (program : List ℕ) (next : Option (List ℕ)) (log : LogOf) (answered : Logic → JobAnswer) (answer : JobAnswer)
    (text : Text) (following : Option Text) → IsLoaded program text → IsNextOf next following → answer ≡ answered (first_logic text following) →
    RunsWithTheHeadline plate program next log answered answer
with_headline plate program next log answered answer text following loaded other is = record {
  text = text;
  is_loaded = loaded;
  headline = headline_holds plate program text loaded;
  following = following;
  is_next = other;
  are_run = rows_are_run.taken (first_logic text following) log;
  is_answer = is;
}

module _ (plate : PlateData) (program : List ℕ) (log : LogOf) (answered : Logic → JobAnswer) (answer : JobAnswer) where
  -- of a job, the next program
  next_run : (next : Option (List ℕ)) (text : Text) → IsLoaded program text → AnswersNext next (λ other one. one ≡ answered (first_logic text other)) answer →
      Either answer (RunsWithTheHeadline plate program next log answered answer)
  next_run None text loaded is = ran (with_headline plate program None log answered answer text None loaded tt is)
  next_run (Some bytes) text loaded (refuses_program number line why is) = refused number line is
  next_run (Some bytes) text loaded (loads_program other read is) =
      ran (with_headline plate program (Some bytes) log answered answer text (Some other) loaded read is)

  -- the program
  programs_run : (next : Option (List ℕ)) → AnswersPrograms answered program next answer → Either answer (RunsWithTheHeadline plate program next log answered answer)
  programs_run next (refuses_program number line why is) = refused number line is
  programs_run next (loads_program text loaded h) = next_run next text loaded h

-- a job by its plate
sections_run : (bytes : List ℕ) (sections : Sections) (answer : JobAnswer) (read : Result PlateData ℕ) → Allows bytes answer → sections_of bytes ≡ Ok sections →
    plate_of (table_read sections.plate) ≡ read → AnswersPlate records_of sections read answer → AnswersByTheHeadline bytes answer
sections_run bytes sections answer (Err number) allowed cut e is = refuses number 0 allowed is
sections_run bytes sections answer (Ok plate) allowed cut e h =
    by (programs_run plate sections.program (log_of (records_of sections.log)) (λ logic. run_answer plate logic (log_of (records_of sections.log))) answer sections.next h)
  where
    by : Either answer (RunsWithTheHeadline plate sections.program sections.next (log_of (records_of sections.log)) (λ logic. run_answer plate logic (log_of (records_of sections.log))) answer)
        → AnswersByTheHeadline bytes answer
    by (refused number place is) = refuses number place allowed is
    by (ran run) = runs sections plate cut e run

-- and by its sections
job_run : (bytes : List ℕ) (answer : JobAnswer) (cut : Result Sections ℕ) → Allows bytes answer → sections_of bytes ≡ cut →
    AnswersSections table_read records_of cut answer → AnswersByTheHeadline bytes answer
job_run bytes answer (Err number) allowed e is = refuses number 0 allowed is
job_run bytes answer (Ok sections) allowed e h = sections_run bytes sections answer (plate_of (table_read sections.plate)) allowed e refl h

-- a job is answered by the headline
pub job_by_headline : (bytes : List ℕ) (answer : JobAnswer) → Allows bytes answer → AnswersByTheHeadline bytes answer
job_by_headline bytes answer allowed = job_run bytes answer (sections_of bytes) allowed refl allowed

-- a run that begins, or is refused to
begun : {Runs : Type 0} (begins : Bool) (answer one : JobAnswer) → (answer ≡ one → Runs) → answer ≡ (if begins then one else refusing 401 0) → Either answer Runs
begun true answer one f is = ran (f is)
begun false answer one f is = refused 401 0 is

module _ (o : Observed) (plate : PlateData) (program : List ℕ) (log : LogOf) (answer : JobAnswer) where
  abbrev Answered : Logic → JobAnswer
  Answered logic = answer_written o.written plate (Some logic) log

  abbrev Ran : Option (List ℕ) → Type 0
  Ran next = RunsWithTheHeadline plate program next log Answered answer

  printed : (next : Option (List ℕ)) (text : Text) (following : Option Text) → IsLoaded program text → IsNextOf next following →
      AnswersPrinting o plate log text following answer → Either answer (Ran next)
  printed next text following loaded other is =
      begun (o.begins (Some (first_logic text following))) answer (Answered (first_logic text following))
      (λ same. with_headline plate program next log Answered answer text following loaded other same) is

  -- the next program's file
  next_file : (next : Option (List ℕ)) (text : Text) → IsLoaded program text → AnswersNextFile next (AnswersPrinting o plate log text) answer → Either answer (Ran next)
  next_file None text loaded h = printed None text None loaded tt h
  next_file (Some bytes) text loaded (too_long longer is) = refused 702 0 is
  next_file (Some bytes) text loaded (whole short (refuses_program number line why is)) = refused number line is
  next_file (Some bytes) text loaded (whole short (loads_program other read h)) = printed (Some bytes) text (Some other) loaded read h

  -- the program's
  program_file : (next : Option (List ℕ)) → AnswersFile program (AnswersText o plate program next log) answer → Either answer (Ran next)
  program_file next (too_long longer is) = refused 702 0 is
  program_file next (whole short (refuses_program number line why is)) = refused number line is
  program_file next (whole short (loads_program text loaded h)) = next_file next text loaded h

-- and the plate's
plate_file : (o : Observed) (table program : List ℕ) (next : Option (List ℕ)) (log : List ℕ) (answer : JobAnswer) (read : Result PlateData ℕ) →
    AnswersRun o table program next log answer → plate_of (table_read table) ≡ read →
    AnswersPlateFile read (λ plate. AnswersFile program (AnswersText o plate program next (log_of (records_of log)))) answer →
    RunsByTheHeadline o table program next log answer
plate_file o table program next log answer (Err number) allowed e is = is_refused number 0 allowed is
plate_file o table program next log answer (Ok plate) allowed e h = by (program_file o plate program (log_of (records_of log)) answer next h) where
  by : Either answer (RunsWithTheHeadline plate program next (log_of (records_of log)) (λ logic. answer_written o.written plate (Some logic) (log_of (records_of log))) answer)
      → RunsByTheHeadline o table program next log answer
  by (refused number place is) = is_refused number place allowed is
  by (ran run) = is_run plate e run

run_by_headline : (o : Observed) (table program : List ℕ) (next : Option (List ℕ)) (log : List ℕ) (answer : JobAnswer) →
    AnswersRun o table program next log answer → RunsByTheHeadline o table program next log answer
run_by_headline o table program next log answer allowed = by_file allowed where
  by_file : AnswersFile table (AnswersPlateFile (plate_of (table_read table)) (λ plate. AnswersFile program (AnswersText o plate program next (log_of (records_of log))))) answer
      → RunsByTheHeadline o table program next log answer
  by_file (too_long longer is) = is_refused 702 0 allowed is
  by_file (whole short h) = plate_file o table program next log answer (plate_of (table_read table)) allowed refl h

-- what is answered of a run of files is answered by the headline
files_by_headline : (o : Observed) (plate : Reader) (program next : Option Reader) (log : Reader) (ending : Ending) (old new : Option (List ℕ)) →
    OfAnswers o (record { plate = plate; program = program; next = next; log = log }) (λ allowed. EndsAs allowed ending old new) →
    OfRunsByTheHeadline o (record { plate = plate; program = program; next = next; log = log }) (λ allowed. EndsAs allowed ending old new)
files_by_headline o plate None next log ending old new h = tt
files_by_headline o plate (Some program) next log ending old new h =
    on_known plate.bytes _ _ (λ table. on_known program.bytes _ _ (λ text. known_more next _ _ (λ known. on_known log.bytes _ _
    (λ bytes. ends_more (AnswersRun o table text known bytes) (RunsByTheHeadline o table text known bytes) ending old new (run_by_headline o table text known bytes))))) h

pub by_headline : (o : Observed) (inputs : InputStates) (ending : Ending) (old new : Option (List ℕ)) →
    OfAnswers o inputs (λ allowed. EndsAs allowed ending old new) → OfRunsByTheHeadline o inputs (λ allowed. EndsAs allowed ending old new)
by_headline o inputs ending old new h = files_by_headline o inputs.plate inputs.program inputs.next inputs.log ending old new h
