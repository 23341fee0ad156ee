-- How far a run came, by the input at which it stopped.
use Rattle.std.proofs.Common.{◌≡◌, ℕ, ◌≤◌, List, length, false, refl, ap, subst, arith}
use Rattle.std.specs.Prelude.{Option, Some, None, IfErr, IfSome, IsSome, is_some, Result, Ok, Err}
use Rattle.wc_controller.proofs.Allowing.{on_each, on_known, plate_not_read, plate_read}
use Rattle.wc_controller.proofs.Blaming.{next_read, one_input, same_next}
use Rattle.wc_controller.proofs.FileRuns as files
use Rattle.wc_controller.proofs.StoppedInputs.{blamed_by, length_refused, memory_by, named_by, no_read_fault, none_taken, read_by, read_on_by, reported_by, untold_by}
use Rattle.wc_controller.specs.{IsNextUnloaded, IsUnloaded, RefusesLog, RefusesProgram, StopsFor, HasNotFailedAt, IsReadFaultAt, RefusesLength, RefusesPlate, StopsAt, TakesInput, ReportsMemory, ReportsReadEndings, ReportsReadFaults, ReportsWriteFaults, WritesUpTo, fault_ending, raised, of_unread_log, status_of, AnswersPrinting, IsLineAnswer, Observed, OfAnswers, OfAnswersTo, RunsUpTo, TakesInputs, ReportsReaders, InputStates, Reader, Writer, inputs_of, AreReadOf, IsLater, failures_of, known_of, log_alone, log_alongside, log_taken}
use Rattle.wc_controller.specs.declared.ending.Ending.TheVariants as ended
use Rattle.wc_job.specs.declared.input.Input.{Input}
use Rattle.wc_job.specs.declared.input.Input.TheVariants as input
use Rattle.wc_controller.specs.declared.ending.InputFault.{InputFault}
use Rattle.wc_model.specs.Definitions.{plate_of, PlateData, IsLoaded, Text, longest_job, Record, log_of, AnswersNext}
use Rattle.wc_plate.specs.TomlTable.{table_read}
use Rattle.wc_record.specs.{HasCause, records_of}
use Rattle.wc_run.specs.Runs.{ReportsWrite}
use Rattle.wc_run.specs.declared.fault.RunFault.{RunFault}
use Rattle.wc_run.specs.declared.fault.RunFault.TheVariants.{Refused, Read, Write, Memory}

-- it stopped at an input before the log, which is not read
stops_early : (o : Observed) (before after : InputStates) (reported : Record) (stopped : InputFault) (writer : Writer)
    → OfAnswers o before (λ allowed. WritesUpTo allowed (Some stopped.fault) writer.taken writer.taken)
    → (stopped.input ≡ input.Job → ⊥) → (stopped.input ≡ input.Log → ⊥)
    → (stopped.input ≡ input.Plate → IfSome before.plate.bytes (λ bytes. RefusesPlate bytes stopped.fault))
    → (stopped.input ≡ input.Program → IfSome (known_of before.program) (λ bytes. RefusesProgram bytes stopped.fault))
    → (stopped.input ≡ input.Next → IfSome (known_of before.next) (λ bytes. RefusesProgram bytes stopped.fault))
    → (stopped.input ≡ input.Program → IsSome before.program)
    → (stopped.input ≡ input.Next → IsSome before.program × IsSome before.next)
    → (stopped.input ≡ input.Plate → (after.program ≡ before.program) × (after.next ≡ before.next))
    → (stopped.input ≡ input.Program → after.next ≡ before.next)
    → (is_some before.program ≡ false → after.next ≡ before.next)
    → after.log ≡ before.log
    → TakesInputs before after
    → ReportsReaders before after (fault_ending stopped.input stopped.fault)
    → ReportsWriteFaults (Some stopped.fault) writer.failures writer.failures
    → RunsUpTo o before after reported (Err stopped) writer writer
stops_early o before after reported stopped writer writes no_job no_log plate program next program_there next_there after_plate after_program alone same taken readers silent = record {
  writes = writes;
  inputs = record {
    blames_plate = blamed_by stopped.input input.Plate RefusesPlate before.plate.bytes stopped.fault plate;
    blames_program = blamed_by stopped.input input.Program RefusesProgram (known_of before.program) stopped.fault program;
    blames_next = blamed_by stopped.input input.Next RefusesProgram (known_of before.next) stopped.fault next;
    blames_log = blamed_by stopped.input input.Log (RefusesLog (log_taken before) reported) before.log.bytes stopped.fault (λ e. absurd (no_log e));
    no_job = λ h. no_job (named_by stopped.input input.Job stopped.fault h);
    program_there = λ h. program_there (named_by stopped.input input.Program stopped.fault h);
    next_there = λ h. next_there (named_by stopped.input input.Next stopped.fault h);
    unread_after_plate = λ h. let both = after_plate (named_by stopped.input input.Plate stopped.fault h) in (both.0, both.1, same);
    unread_after_program = λ h. (after_program (named_by stopped.input input.Program stopped.fault h), same);
    unread_after_next = λ h. same;
    unread_after_names = λ h. same;
    unread_alone = alone;
    log_fault = λ e. absurd (no_log ((read_by stopped.input input.Log stopped.fault e).0));
    log_read = read_on_by stopped.input input.Log stopped.fault before.log.failures after.log.failures (λ e. absurd (no_log e));
    taken = taken;
  };
  readers = readers;
  memory = λ e. of_unread_log (ap (λ (reader : Reader). reader.spent) same);
  failures = silent;
}

-- what is known if it stopped at the log, at the next program after its reading, or not at all
record IsLateRun (o : Observed) (before after : InputStates) (reported : Record) (answer : Result (Unit {0}) InputFault) (old new : Writer) : Type 0 where
  writes : OfAnswers o before (λ allowed. WritesUpTo allowed (raised answer) old.taken new.taken)
  later : IsLater answer
  blames_next : IfErr answer (λ stopped. stopped.input ≡ input.Next → IfSome (known_of before.next) (λ bytes. RefusesProgram bytes stopped.fault))
  blames_log : StopsFor input.Log (RefusesLog (log_taken before) reported) before.log.bytes answer
  next_there : StopsAt input.Next answer → IsSome before.program × IsSome before.next
  unread : StopsAt input.Next answer → after.log ≡ before.log
  unread_names : StopsAt input.Names answer → after.log ≡ before.log
  alone : is_some before.program ≡ false → after.next ≡ before.next
  held : IsReadFaultAt input.Next answer → ⊥
  read : IsReadFaultAt input.Log answer → HasCause before.log.failures after.log.failures before.log.spent after.log.spent
  memory : raised answer ≡ Some Memory → ReportsMemory (log_taken before) before.log.bytes before.log.failures after.log.failures before.log.spent after.log.spent
  reader : HasNotFailedAt input.Log answer before.log.failures after.log.failures
  failures : ReportsWriteFaults (raised answer) old.failures new.failures
  taken : TakesInputs before after
  plate_kept : after.plate.failures ≡ before.plate.failures
  program_kept : failures_of after.program ≡ failures_of before.program
  next_kept : failures_of after.next ≡ failures_of before.next

-- an ending after all was done reports no read fault
done_untold : (at : Input) (old new : ℕ) → new ≡ old → ReportsReadEndings at ended.Done old new
done_untold at old new same = (λ e. absurd (no_read_fault at ended.Done (λ h. h) e), λ no. same)

late : (o : Observed) (before after : InputStates) (reported : Record) (answer : Result (Unit {0}) InputFault) (old new : Writer) → IsLateRun o before after reported answer old new → RunsUpTo o before after reported answer old new
late o before after reported (Ok done) old new h = record {
  writes = h.writes;
  inputs = record {
    blames_plate = tt;
    blames_program = tt;
    blames_next = tt;
    blames_log = tt;
    no_job = λ at. at;
    program_there = λ at. absurd at;
    next_there = λ at. absurd at;
    unread_after_plate = λ at. absurd at;
    unread_after_program = λ at. absurd at;
    unread_after_next = λ at. absurd at;
    unread_after_names = λ at. absurd at;
    unread_alone = h.alone;
    log_fault = λ e. absurd (no_read_fault input.Log ended.Done (λ at. at) e);
    log_read = h.reader;
    taken = h.taken;
  };
  readers = record {
    plate = done_untold input.Plate before.plate.failures after.plate.failures h.plate_kept;
    program = done_untold input.Program (failures_of before.program) (failures_of after.program) h.program_kept;
    next = done_untold input.Next (failures_of before.next) (failures_of after.next) h.next_kept;
  };
  memory = λ e. absurd (omega (arith, ap status_of e));
  failures = h.failures;
}
late o before after reported (Err stopped) old new h =
    let at = stopped.input in
    let why = stopped.fault in
    record {
      writes = h.writes;
      inputs = record {
        blames_plate = blamed_by at input.Plate RefusesPlate before.plate.bytes why (λ e. absurd (h.later.1 e));
        blames_program = blamed_by at input.Program RefusesProgram (known_of before.program) why (λ e. absurd (h.later.2 e));
        blames_next = blamed_by at input.Next RefusesProgram (known_of before.next) why h.blames_next;
        blames_log = blamed_by at input.Log (RefusesLog (log_taken before) reported) before.log.bytes why h.blames_log;
        no_job = λ is. h.later.0 (named_by at input.Job why is);
        program_there = λ is. absurd (h.later.2 (named_by at input.Program why is));
        next_there = λ is. h.next_there (named_by at input.Next why is);
        unread_after_plate = λ is. absurd (h.later.1 (named_by at input.Plate why is));
        unread_after_program = λ is. absurd (h.later.2 (named_by at input.Program why is));
        unread_after_next = λ is. h.unread (named_by at input.Next why is);
        unread_after_names = λ is. h.unread_names (named_by at input.Names why is);
        unread_alone = h.alone;
        log_fault = λ e. h.read (read_by at input.Log why e);
        log_read = read_on_by at input.Log why before.log.failures after.log.failures h.reader;
        taken = h.taken;
      };
      readers = record {
        plate = untold_by at input.Plate why before.plate.failures after.plate.failures h.later.1 h.plate_kept;
        program = untold_by at input.Program why (failures_of before.program) (failures_of after.program) h.later.2 h.program_kept;
        next = (λ e. absurd (h.held (read_by at input.Next why e)), λ no. h.next_kept);
      };
      memory = λ e. h.memory (ap (λ fault. Some fault) (memory_by at why e));
      failures = h.failures;
    }

-- no plate was read
writes_at_plate : (o : Observed) (plate : Reader) (program next : Option Reader) (log : Reader) (why : RunFault) (old : Option (List ℕ))
    → IfSome plate.bytes (λ keys. RefusesPlate keys why) → OfAnswersTo o plate program next log (λ allowed. WritesUpTo allowed (Some why) old old)
writes_at_plate o plate None next log why old refused =
    on_known plate.bytes _ _
    (λ table is. on_each log.bytes _ (λ bytes. plate_not_read table (λ read. IsLineAnswer o read (log_of (records_of bytes))) why old is)) refused
writes_at_plate o plate (Some program) next log why old refused = files.at_plate o plate.bytes program.bytes next log.bytes why old refused

-- of a file that was not read whole no write fault is reported
length_silent : (known : Option (List ℕ)) (why : RunFault) (count : ℕ) → RefusesLength known why → ReportsWrite why count count
length_silent known (Refused number place) count h = refl
length_silent known Read count h = refl
length_silent known Write count h = absurd h
length_silent known Memory count h = refl

-- what was read was there
is_there : (reader : Option Reader) (bytes : List ℕ) → AreReadOf reader (Some bytes) → IsSome reader
is_there None bytes are = absurd are
is_there (Some reader) bytes are = refl

-- so there is one
not_alone : (reader : Option Reader) → IsSome reader → is_some reader ≡ false → ⊥
not_alone None there alone = absurd (cc there)
not_alone (Some reader) there alone = absurd (cc alone)

module _ (o : Observed) (reported : Record) (plate plate_after : Reader) (program program_after next next_after : Option Reader) (log : Reader) (stopped : InputFault) (writer : Writer) where
  pub at_plate : stopped.input ≡ input.Plate
      → IfSome plate.bytes (λ keys. RefusesPlate keys stopped.fault)
      → ReportsReadFaults {X = Unit {0}} input.Plate (Err stopped) plate.failures plate_after.failures
      → TakesInput plate.bytes plate_after.bytes → ReportsWriteFaults (Some stopped.fault) writer.failures writer.failures
      → RunsUpTo o (inputs_of plate program next log) (inputs_of plate_after program next log) reported (Err stopped) writer writer
  at_plate at refused faults taken silent =
      stops_early o (inputs_of plate program next log) (inputs_of plate_after program next log) reported stopped writer
      (writes_at_plate o plate program next log stopped.fault writer.taken refused)
      (one_input input.Plate input.Job stopped.input at) (one_input input.Plate input.Log stopped.input at)
      (λ e. refused) (λ e. absurd (one_input input.Plate input.Program stopped.input at e)) (λ e. absurd (one_input input.Plate input.Next stopped.input at e))
      (λ e. absurd (one_input input.Plate input.Program stopped.input at e)) (λ e. absurd (one_input input.Plate input.Next stopped.input at e))
      (λ e. (refl, refl)) (λ e. refl) (λ e. refl) refl
      (record { plate = taken; program = none_taken (known_of program); next = none_taken (known_of next) })
      (record {
        plate = reported_by stopped input.Plate plate.failures plate_after.failures faults;
        program = untold_by stopped.input input.Program stopped.fault (failures_of program) (failures_of program) (one_input input.Plate input.Program stopped.input at) refl;
        next = untold_by stopped.input input.Next stopped.fault (failures_of next) (failures_of next) (one_input input.Plate input.Next stopped.input at) refl;
      }) silent

  module _ (validated : PlateData) (is : IfSome plate.bytes (λ keys. (length keys ≤ longest_job) × (plate_of (table_read keys) ≡ Ok validated)))
      (plate_kept : plate_after.failures ≡ plate.failures) (plate_taken : TakesInput plate.bytes plate_after.bytes) where
    -- no program was read
    pub at_program : stopped.input ≡ input.Program
        → RefusesLength (known_of program) stopped.fault → IsSome program
        → ReportsReadFaults {X = Unit {0}} input.Program (Err stopped) (failures_of program) (failures_of program_after)
        → TakesInput (known_of program) (known_of program_after)
        → RunsUpTo o (inputs_of plate program next log) (inputs_of plate_after program_after next log) reported (Err stopped) writer writer
    at_program at refused there faults taken =
        stops_early o (inputs_of plate program next log) (inputs_of plate_after program_after next log) reported stopped writer
        (by_program program there refused)
        (one_input input.Program input.Job stopped.input at) (one_input input.Program input.Log stopped.input at)
        (λ e. absurd (one_input input.Program input.Plate stopped.input at e)) (λ e. length_refused (known_of program) stopped.fault refused) (λ e. absurd (one_input input.Program input.Next stopped.input at e))
        (λ e. there) (λ e. absurd (one_input input.Program input.Next stopped.input at e))
        (λ e. absurd (one_input input.Program input.Plate stopped.input at e)) (λ e. refl) (λ e. refl) refl
        (record { plate = plate_taken; program = taken; next = none_taken (known_of next) })
        (record {
          plate = untold_by stopped.input input.Plate stopped.fault plate.failures plate_after.failures (one_input input.Program input.Plate stopped.input at) plate_kept;
          program = reported_by stopped input.Program (failures_of program) (failures_of program_after) faults;
          next = untold_by stopped.input input.Next stopped.fault (failures_of next) (failures_of next) (one_input input.Program input.Next stopped.input at) refl;
        }) (length_silent (known_of program) stopped.fault writer.failures refused) where
          by_program : (reader : Option Reader) → IsSome reader → RefusesLength (known_of reader) stopped.fault
              → OfAnswersTo o plate reader next log (λ allowed. WritesUpTo allowed (Some stopped.fault) writer.taken writer.taken)
          by_program None there refused = absurd (cc there)
          by_program (Some reader) there refused = files.at_program o plate.bytes reader.bytes next log.bytes validated is stopped.fault writer.taken refused

    module _ (program_kept : failures_of program_after ≡ failures_of program) (program_taken : TakesInput (known_of program) (known_of program_after))
        (text : List ℕ) (are : AreReadOf program (Some text)) where
      -- no program was loaded
      pub at_text : stopped.input ≡ input.Program
          → IsUnloaded text stopped.fault → ReportsWriteFaults (Some stopped.fault) writer.failures writer.failures
          → RunsUpTo o (inputs_of plate program next log) (inputs_of plate_after program_after next log) reported (Err stopped) writer writer
      at_text at refused silent =
          stops_early o (inputs_of plate program next log) (inputs_of plate_after program_after next log) reported stopped writer
          (by_program program are)
          (one_input input.Program input.Job stopped.input at) (one_input input.Program input.Log stopped.input at)
          (λ e. absurd (one_input input.Program input.Plate stopped.input at e)) (λ e. next_read program (Some text) stopped.fault are refused) (λ e. absurd (one_input input.Program input.Next stopped.input at e))
          (λ e. is_there program text are) (λ e. absurd (one_input input.Program input.Next stopped.input at e))
          (λ e. absurd (one_input input.Program input.Plate stopped.input at e)) (λ e. refl) (λ e. refl) refl
          (record { plate = plate_taken; program = program_taken; next = none_taken (known_of next) })
          (record {
            plate = untold_by stopped.input input.Plate stopped.fault plate.failures plate_after.failures (one_input input.Program input.Plate stopped.input at) plate_kept;
            program = (λ e. absurd (subst (IsUnloaded text) ((read_by stopped.input input.Program stopped.fault e).1) refused), λ no. program_kept);
            next = untold_by stopped.input input.Next stopped.fault (failures_of next) (failures_of next) (one_input input.Program input.Next stopped.input at) refl;
          }) silent where
            by_program : (reader : Option Reader) → AreReadOf reader (Some text)
                → OfAnswersTo o plate reader next log (λ allowed. WritesUpTo allowed (Some stopped.fault) writer.taken writer.taken)
            by_program None whole = absurd whole
            by_program (Some reader) whole = files.at_text o plate.bytes reader.bytes next log.bytes validated is text whole stopped.fault writer.taken refused

      -- no next program was read
      pub at_next : (first : Text) → IsLoaded text first → stopped.input ≡ input.Next
          → RefusesLength (known_of next) stopped.fault → IsSome next
          → ReportsReadFaults {X = Unit {0}} input.Next (Err stopped) (failures_of next) (failures_of next_after)
          → TakesInput (known_of next) (known_of next_after)
          → RunsUpTo o (inputs_of plate program next log) (inputs_of plate_after program_after next_after log) reported (Err stopped) writer writer
      at_next first loads at refused there faults taken =
          stops_early o (inputs_of plate program next log) (inputs_of plate_after program_after next_after log) reported stopped writer
          (by_program program are)
          (one_input input.Next input.Job stopped.input at) (one_input input.Next input.Log stopped.input at)
          (λ e. absurd (one_input input.Next input.Plate stopped.input at e)) (λ e. absurd (one_input input.Next input.Program stopped.input at e)) (λ e. length_refused (known_of next) stopped.fault refused)
          (λ e. absurd (one_input input.Next input.Program stopped.input at e)) (λ e. (is_there program text are, there))
          (λ e. absurd (one_input input.Next input.Plate stopped.input at e)) (λ e. absurd (one_input input.Next input.Program stopped.input at e))
          (λ e. absurd (not_alone program (is_there program text are) e)) refl
          (record { plate = plate_taken; program = program_taken; next = taken })
          (record {
            plate = untold_by stopped.input input.Plate stopped.fault plate.failures plate_after.failures (one_input input.Next input.Plate stopped.input at) plate_kept;
            program = untold_by stopped.input input.Program stopped.fault (failures_of program) (failures_of program_after) (one_input input.Next input.Program stopped.input at) program_kept;
            next = reported_by stopped input.Next (failures_of next) (failures_of next_after) faults;
          }) (length_silent (known_of next) stopped.fault writer.failures refused) where
            by_program : (reader : Option Reader) → AreReadOf reader (Some text)
                → OfAnswersTo o plate reader next log (λ allowed. WritesUpTo allowed (Some stopped.fault) writer.taken writer.taken)
            by_program None whole = absurd whole
            by_program (Some reader) whole = files.at_next o plate.bytes reader.bytes next log.bytes validated is text whole first loads stopped.fault writer.taken there refused

-- nothing is said of an input at which it did not stop
not_next : (answer : Result (Unit {0}) InputFault) (known : Option (List ℕ)) → (StopsAt input.Next answer → ⊥)
    → IfErr answer (λ stopped. stopped.input ≡ input.Next → IfSome known (λ bytes. RefusesProgram bytes stopped.fault))
not_next (Ok done) known other = tt
not_next (Err stopped) known other = λ e. absurd (other e)

-- a read fault of an input stopped at it
read_at : (answer : Result (Unit {0}) InputFault) (at : Input) → IsReadFaultAt at answer → StopsAt at answer
read_at (Ok done) at is = is
read_at (Err stopped) at is = is.0

module _ (o : Observed) (reported : Record) (plate plate_after : Reader) (program program_after next : Option Reader) (log log_after : Reader)
    (validated : PlateData) (is : IfSome plate.bytes (λ keys. (length keys ≤ longest_job) × (plate_of (table_read keys) ≡ Ok validated)))
    (plate_kept : plate_after.failures ≡ plate.failures) (plate_taken : TakesInput plate.bytes plate_after.bytes)
    (program_kept : failures_of program_after ≡ failures_of program) (program_taken : TakesInput (known_of program) (known_of program_after))
    (answer : Result (Unit {0}) InputFault) (old new : Writer) where
  -- the log was started with no program
  pub at_line : AreReadOf program None
      → IfSome log.bytes (λ bytes. WritesUpTo (IsLineAnswer o validated (log_of (records_of bytes))) (raised answer) old.taken new.taken)
      → IsLater answer
      → (StopsAt input.Next answer → ⊥)
      → (StopsAt input.Names answer → log_after ≡ log)
      → StopsFor input.Log (RefusesLog log_alone reported) log.bytes answer
      → (IsReadFaultAt input.Log answer → HasCause log.failures log_after.failures log.spent log_after.spent)
      → (raised answer ≡ Some Memory → ReportsMemory log_alone log.bytes log.failures log_after.failures log.spent log_after.spent)
      → HasNotFailedAt input.Log answer log.failures log_after.failures
      → ReportsWriteFaults (raised answer) old.failures new.failures
      → RunsUpTo o (inputs_of plate program next log) (inputs_of plate_after program_after next log_after) reported answer old new
  at_line are writes later no_next names blames read memory reader failures =
      late o (inputs_of plate program next log) (inputs_of plate_after program_after next log_after) reported answer old new
      (by_program program are program_taken program_kept) where
        by_program : (reader : Option Reader) → AreReadOf reader None → TakesInput (known_of reader) (known_of program_after) → failures_of program_after ≡ failures_of reader
            → IsLateRun o (inputs_of plate reader next log) (inputs_of plate_after program_after next log_after) reported answer old new
        by_program None whole taken kept = record {
          writes = on_known plate.bytes _ _
              (λ table read. on_known log.bytes _ _
              (λ bytes upto. plate_read table validated (λ one. IsLineAnswer o one (log_of (records_of bytes))) (raised answer) old.taken new.taken read upto) writes) is;
          later = later;
          blames_next = not_next answer (known_of next) no_next;
          blames_log = blames;
          next_there = λ at. absurd (no_next at);
          unread = λ at. absurd (no_next at);
          unread_names = names;
          alone = λ e. refl;
          held = λ at. no_next (read_at answer input.Next at);
          read = read;
          memory = memory;
          reader = reader;
          failures = failures;
          taken = record { plate = plate_taken; program = taken; next = none_taken (known_of next) };
          plate_kept = plate_kept;
          program_kept = kept;
          next_kept = refl;
        }
        by_program (Some reader) whole taken kept = absurd whole

  -- the log was started with a program, or the next program not loaded
  pub at_log : (text : List ℕ) → AreReadOf program (Some text) → (first : Text) → IsLoaded text first
      → (next_after : Option Reader) (held : Option (List ℕ)) → AreReadOf next held
      → failures_of next_after ≡ failures_of next → TakesInput (known_of next) (known_of next_after)
      → IfSome log.bytes (λ bytes. WritesUpTo (AnswersNext held (AnswersPrinting o validated (log_of (records_of bytes)) first)) (raised answer) old.taken new.taken)
      → IfErr answer (λ stopped. stopped.input ≡ input.Next → IsNextUnloaded held stopped.fault)
      → StopsFor input.Log (RefusesLog (log_alongside (is_some held)) reported) log.bytes answer
      → (StopsAt input.Next answer → log_after ≡ log)
      → (StopsAt input.Names answer → log_after ≡ log)
      → IsLater answer
      → (IsReadFaultAt input.Next answer → ⊥)
      → (IsReadFaultAt input.Log answer → HasCause log.failures log_after.failures log.spent log_after.spent)
      → (raised answer ≡ Some Memory → ReportsMemory (log_alongside (is_some held)) log.bytes log.failures log_after.failures log.spent log_after.spent)
      → HasNotFailedAt input.Log answer log.failures log_after.failures
      → ReportsWriteFaults (raised answer) old.failures new.failures
      → RunsUpTo o (inputs_of plate program next log) (inputs_of plate_after program_after next_after log_after) reported answer old new
  at_log text whole first loads next_after held are next_kept next_taken writes blames_next blames_log unread names later not_read read memory well failures =
      late o (inputs_of plate program next log) (inputs_of plate_after program_after next_after log_after) reported answer old new
      (by_program program whole program_taken program_kept) where
        same : is_some held ≡ is_some next
        same = same_next next held are

        refused : (result : Result (Unit {0}) InputFault) → IfErr result (λ stopped. stopped.input ≡ input.Next → IsNextUnloaded held stopped.fault)
            → IfErr result (λ stopped. stopped.input ≡ input.Next → IfSome (known_of next) (λ bytes. RefusesProgram bytes stopped.fault))
        refused (Ok done) h = tt
        refused (Err stopped) h = λ e. next_read next held stopped.fault are (h e)

        there : (result : Result (Unit {0}) InputFault) → IfErr result (λ stopped. stopped.input ≡ input.Next → IsNextUnloaded held stopped.fault) → StopsAt input.Next result → IsSome next
        there (Ok done) h at = absurd at
        there (Err stopped) h at = by_held next held are (h at) where
          by_held : (reader : Option Reader) (bytes : Option (List ℕ)) → AreReadOf reader bytes → IsNextUnloaded bytes stopped.fault → IsSome reader
          by_held None None are h = absurd h
          by_held None (Some bytes) are h = absurd are
          by_held (Some reader) bytes are h = refl

        by_program : (reader : Option Reader) → AreReadOf reader (Some text) → TakesInput (known_of reader) (known_of program_after) → failures_of program_after ≡ failures_of reader
            → IsLateRun o (inputs_of plate reader next log) (inputs_of plate_after program_after next_after log_after) reported answer old new
        by_program None read taken kept = absurd read
        by_program (Some reader) bytes_read taken kept = record {
          writes = files.at_log o plate.bytes reader.bytes next log.bytes validated is text bytes_read first loads held are (raised answer) old.taken new.taken writes;
          later = later;
          blames_next = refused answer blames_next;
          blames_log = subst (λ left. StopsFor input.Log (RefusesLog (log_alongside left) reported) log.bytes answer) same blames_log;
          next_there = λ at. (refl, there answer blames_next at);
          unread = unread;
          unread_names = names;
          alone = λ e. absurd (cc e);
          held = not_read;
          read = read;
          memory = subst (λ left. raised answer ≡ Some Memory → ReportsMemory (log_alongside left) log.bytes log.failures log_after.failures log.spent log_after.spent) same memory;
          reader = well;
          failures = failures;
          taken = record { plate = plate_taken; program = taken; next = next_taken };
          plate_kept = plate_kept;
          program_kept = kept;
          next_kept = next_kept;
        }
