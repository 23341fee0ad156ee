pub mod Doing
pub mod Logics
pub mod Observing
pub mod Representation
pub mod Runs
pub mod Reports
pub mod Coming
pub mod Scanning
pub mod OpenScales
pub use Rattle.wc_run.specs.Doing.{Does, Ended, EndsWhole, Gives, GivesItems, HasSeenAll, IsClassified, IsCutShort, RunsRow, RunsRows, Seeing, StopsAtRow, TakesRow, Writes, WritesBy, from_fault, from_log_fault, is_cut_short, refused_in, row_at, seen_writing}
pub use Rattle.wc_run.specs.Logics.{IsAt, IsTaken, lines_of_row, lines_of_rows, logic_after, text_of_next}
pub use Rattle.wc_run.specs.Observing.{AreItems, IsLookedAt, IsShown, Plan, RefusesToBegin, Start, Written, bytes_of, items_of, line_of_record, lines_of_records, lines_of_scan, lines_of_seen, loaded_of, logic_of, onto, refusal_of, row_of, said, said_by, start_of, start_with, text_coming, text_in_all}
pub use Rattle.wc_run.specs.Representation.{BytesAreCutAnywhere, EachRowIsACall, IsNext, IsNotAfter, Represents, came_by, program_of}
pub use Rattle.wc_run.specs.Runs.{AppendsFirst, AppendsPrefix, HasNotFailed, IsFaultAt, IsNoRefusal, ReportsBy, ReportsFault, ReportsFaults, ReportsRefused, ReportsRow, ReportsWrite, ReportsWrites, report_written}
pub use Rattle.wc_run.specs.Reports.{HoldsScans, KeepsScan, last_plan, lines_so_far, plan_of, report_plan, silent_plan}
pub use Rattle.wc_run.specs.Coming.{Answers, IsChangedTo, IsCutShortAt, IsSample, changed_program, image_of, with_byte, with_bytes, with_inputs, with_program, with_sample}
pub use Rattle.wc_run.specs.Scanning.{EndsScan, IsDone, LeavesScan, RecordsScan, Scans, Sees, record_of, scan_result, scanned_program}
pub use Rattle.wc_run.specs.OpenScales.{Came, Goes, IsRunning, Running, nothing_yet, started, state_view}
