-- The line does not depend on programs: what its answers are has nothing to do with scans, inputs and changes of the
-- program.
use Rattle.std.specs.Prelude.{◌≡◌, ℕ, Bool, true, false, List, [], ◌++◌, filter, map}
use Rattle.wc_model.specs.Instrument.WeighingHistories.{last_items}
use Rattle.wc_model.specs.Instrument.Plates.{PlateData}
use Rattle.wc_model.specs.Say.Report.{Program, report_lines, answer_lines, report_text, line_report, report_last, is_answer_line, is_scan_line}
use Rattle.wc_model.specs.Run.Rows.{RowData, Counts, Bytes, Inputs, Scan, Change, LogRow, Past, answer_of_row}

-- whether the indicator or its line takes part in a row: a sample, or bytes
abbrev pub is_for_indicator : RowData → Bool
is_for_indicator (Counts counts) = true
is_for_indicator (Bytes bytes) = true
is_for_indicator (Inputs inputs) = false
is_for_indicator Scan = false
is_for_indicator Change = false

-- the rows without scans, inputs and changes
abbrev pub indicator_rows : List LogRow → List LogRow
indicator_rows rows = filter (λ row. is_for_indicator row.brings) rows

-- the moments of the samples and line bytes, and what they bring: a row's number counts the others too, and is left out
abbrev pub indicator_moments : List LogRow → List (ℕ × RowData)
indicator_moments rows = map (λ row. (row.ms, row.brings)) (indicator_rows rows)

-- Scans, inputs and changes of the program may be taken out and put in.
--     row      a row has the answer that it has if those before it are taken out
--     log      two logs that bring the same samples and line bytes at the same moments have the same answers
pub record IsFreeOfScans (p : PlateData) : Type 0 where
  pub row : (before : Past) (row : LogRow) → answer_of_row p before row ≡ answer_of_row p (indicator_rows before) row
  pub log : (rows others : List LogRow) → indicator_moments rows ≡ indicator_moments others →
      answer_lines p [] rows ≡ answer_lines p [] others

-- The answers in a report are those of a run with no program, whatever the program and what it is changed to.
--     lines      line for line
--     bytes      and byte for byte
--     last       a report of the last scans begins with just them
pub record IsFreeOfPrograms {State : Type 0} (p : PlateData) (program : Program State) (start : State) (rows : List LogRow) : Type 0 where
  pub lines : filter is_answer_line (report_lines p program start [] rows) ≡ answer_lines p [] rows
  pub bytes : report_text (filter is_answer_line (report_lines p program start [] rows)) ≡ line_report p rows
  pub last : (n : ℕ) → report_last n p program start rows
      ≡ line_report p rows ++ report_text (last_items n (filter is_scan_line (report_lines p program start [] rows)))
