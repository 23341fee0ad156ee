pub mod Headline
pub mod HeadlineRuns
pub mod Frames
pub mod Loads
pub mod Checking
pub mod Files
pub mod TakenLogs
pub mod Blames
pub mod Endings
pub mod InputRuns
pub mod WrittenRuns
pub use Rattle.wc_controller.specs.Headline.{HasTheHeadline, IsTheHeadline}
pub use Rattle.wc_controller.specs.HeadlineRuns.{AnswersByTheHeadline, IsNextOf, OfRunsByTheHeadline, RunsByTheHeadline, RunsWithTheHeadline, is_refused, is_run, refuses, runs}
pub use Rattle.wc_controller.specs.Loads.{IsNeverRefused, IsRefusedLoad, IsTheOnlyRefusal}
pub use Rattle.wc_controller.specs.Checking.{Checks, ChecksAlone, WritesReport}
pub use Rattle.wc_controller.specs.Files.{Allows, AllowsSections, AnswersCheck, AnswersCheckFile, AnswersFile, AnswersLine, AnswersLog, AnswersNextFile, AnswersPlateFile, AnswersPrinting, AnswersRun, AnswersText, AnswersWithPlate, Gives, IsAnswer, IsLineAnswer, Observed, answer_written, refuses_text, report_observed, reports_units, too_long, whole}
pub use Rattle.wc_controller.specs.TakenLogs.{AreReadOf, IfKnown, InputStates, IsLater, IsNextLoadedOf, OfLogic, OfPrograms, Reader, Writer, failures_of, inputs_of, known_of, log_alone, log_alongside, log_by, log_taken, observed_by, optional_of, reader_of, writer_of}
pub use Rattle.wc_controller.specs.Blames.{BlamesPart, IsNextUnloaded, IsUnloaded, RefusesLog, RefusesPart, RefusesProgram, RefusesText, StopsAsPart, StopsFor, StopsForPart}
pub use Rattle.wc_controller.specs.Endings.{EndsAfter, EndsAfterFault, EndsAs, EndsRefused, HasNotFailedAt, IsAt, IsEndedBy, IsFaulty, IsReadFaultAt, RefusesLength, RefusesPlate, ReportsFailures, ReportsMemory, ReportsReadEndings, ReportsReadFaults, ReportsWriteFaults, StopsAt, TakesInput, WritesPrefix, WritesUpTo, answered, begin_fault_input, ending_of, failed, fault_ending, fault_in_memory, fault_raised, of_no_cause, of_refused_log, of_unread_log, raised, status_of}
pub use Rattle.wc_controller.specs.InputRuns.{OfAnswers, OfAnswersTo, ReadsInOrder, ReportsReaders, RunsAs, RunsUnsaid, RunsUpTo, TakesInputs}
pub use Rattle.wc_controller.specs.WrittenRuns.{EndsSaying, EndsUnwritten, IsUnwritten, OfRun, OfStart, OnEnd, OnRefusal, says_of}
