-- The two observers that write a report: one each line as its row comes, the other the answers as they come and the lines of
-- the last n scans at the end.
use Rattle.std.specs.Prelude.{◌≡◌, ℕ, List, [], ◌++◌, ◌∷◌, filter, Option, Some, None}
use Rattle.wc_model.specs.Definitions.{PlateData, last_items, Past, Logic, ReportLine, is_answer_line, is_scan_line, report_text}
use Rattle.wc_record.specs.Recorders.{RecorderState, HoldsLast}
use Rattle.wc_record.specs.declared.last_scans.Record.{Record}
use Rattle.wc_run.specs.Logics.{lines_of_row, lines_of_rows}
use Rattle.wc_run.specs.Observing.{Plan, lines_of_records}
use Rattle.wc_run.specs.declared.row_seen.ScanSeen.{ScanSeen}

-- the lines of the rows so far
abbrev pub lines_so_far : PlateData → Option Logic → Past → List ReportLine
lines_so_far plate logic [] = []
lines_so_far plate logic (row ∷ past) = lines_so_far plate logic past ++ lines_of_row plate logic past row

-- the whole report, line by line as the rows come
abbrev pub report_plan : Plan
report_plan = record { at_row = λ plate logic past row. report_text (lines_of_row plate logic past row); at_end = λ plate logic rows refusal. [] }

-- the answers as their rows come, and after all rows the lines of the last n scans
abbrev pub last_plan : ℕ → Plan
last_plan number = record {
  at_row = λ plate logic past row. report_text (filter is_answer_line (lines_of_row plate logic past row));
  at_end = λ plate logic rows refusal. report_text (last_items number (filter is_scan_line (lines_of_rows plate logic [] rows)));
}

-- nothing, of an observer of whose bytes nothing is said
abbrev pub silent_plan : Plan
silent_plan = record { at_row = λ plate logic past row. []; at_end = λ plate logic rows refusal. [] }

-- the plan of a report with every scan, or with the last n alone
abbrev pub plan_of : Option ℕ → Plan
plan_of None = report_plan
plan_of (Some number) = last_plan number

-- a recorder holds the last n of the scans of these lines
abbrev pub HoldsScans : RecorderState → ℕ → List ReportLine → Type 0
HoldsScans recorder number lines = (all : List Record) × HoldsLast recorder number all × (lines_of_records all ≡ filter is_scan_line lines)

-- a recorder keeps the record of a scan that was done after those that it kept, and else stays as it was
abbrev pub KeepsScan : RecorderState → RecorderState → Option ScanSeen → Type 0
KeepsScan old new None = new ≡ old
KeepsScan old new (Some scan) = (all : List Record) → HoldsLast old old.most all → HoldsLast new old.most (all ++ scan.record ∷ [])
