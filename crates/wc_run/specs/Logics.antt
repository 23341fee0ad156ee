-- The logic with a scale: none, or a program's text with the store from which its scans go on, and
-- the next text if one is left; and what a run with it writes.
use Rattle.std.specs.Prelude.{◌≡◌, ⊤, ℕ, List, Option, Some, None, option_map}
use Rattle.wc_cost.specs.LoadedTexts.{LoadedText}
use Rattle.wc_machine.specs.Machines.{MachineState, RepresentsText}
use Rattle.wc_model.specs.Definitions.{PlateData, Text, text_view, LogOf, refused_at, with_row, log_for, Logic, logic_following, program_report, program_report_last, programs, ReportLine, answer_line, answer_lines, line_report, lines_with, report_lines, LogRow, Past, answer_of_row}

-- the text of a next program that is loaded
abbrev pub text_of_next : Option LoadedText → Option Text
text_of_next next = option_map (λ loaded. text_view loaded.source) next

-- a machine represents its logic, and what is loaded the next text; no machine represents none, whatever is loaded
abbrev pub IsAt : Option MachineState → Option LoadedText → Option Logic → Type 0
IsAt None next None = ⊤
IsAt None next (Some logic) = ⊥
IsAt (Some machine) next None = ⊥
IsAt (Some machine) next (Some logic) = RepresentsText machine logic.text logic.store × (text_of_next next ≡ logic.next)

-- what a run of rows writes: the report of the program, or with none the answers alone
abbrev pub run_report : PlateData → Option Logic → List LogRow → List ℕ
run_report plate None rows = line_report plate rows
run_report plate (Some logic) rows = program_report plate logic rows

-- what a run of rows writes that keeps the last n scans: the answers, then those scans
abbrev pub run_report_last : ℕ → PlateData → Option Logic → List LogRow → List ℕ
run_report_last number plate None rows = line_report plate rows
run_report_last number plate (Some logic) rows = program_report_last number plate logic rows

-- the logic after rows, the newest first, that their scans and changes have left
abbrev pub logic_after : PlateData → Option Logic → Past → Option Logic
logic_after plate None past = None
logic_after plate (Some logic) past = Some (logic_following plate logic past)

-- the lines of a row after the rows so far
abbrev pub lines_of_row : PlateData → Option Logic → Past → LogRow → List ReportLine
lines_of_row plate None past row = answer_line row.ms (answer_of_row plate past row)
lines_of_row plate (Some logic) past row = lines_with plate programs logic row.brings past row

-- the lines of the rows that follow those so far
abbrev pub lines_of_rows : PlateData → Option Logic → Past → List LogRow → List ReportLine
lines_of_rows plate None past rows = answer_lines plate past rows
lines_of_rows plate (Some logic) past rows = report_lines plate programs logic past rows

-- a run with this logic takes the row, and the rest of the log with the logic after it
abbrev pub IsTaken : Option Logic → Option Logic → LogRow → Type 0
IsTaken logic after row = (rest : LogOf) → log_for logic (with_row row rest) ≡ with_row row (log_for after rest)

-- a run with this logic refuses the row, under this number and at this place
abbrev pub IsRefusedRow : Option Logic → LogRow → ℕ → ℕ → Type 0
IsRefusedRow logic row code place = (rest : LogOf) → log_for logic (with_row row rest) ≡ refused_at code place
