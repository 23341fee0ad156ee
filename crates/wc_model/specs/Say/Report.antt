-- What a run writes. The form of the lines is the profile's own.
use Rattle.std.specs.Prelude.{ℕ, Bool, true, false, List, [], ◌∷◌, ◌++◌, filter, flat_map, codes, decimal, ℤ}
use Rattle.std.specs.Fmt.{signed_decimal}
use Rattle.wc_model.specs.declared.image.Image.{Image}
use Rattle.wc_model.specs.declared.image.Outputs.{Outputs}
use Rattle.wc_model.specs.Instrument.Plates.{PlateData}
use Rattle.wc_model.specs.Instrument.WeighingHistories.{last_items}
use Rattle.wc_model.specs.Run.Hex.{hex_of_bytes, hex_of_word}
use Rattle.wc_model.specs.Run.Rows.{RowData, Counts, Bytes, Inputs, Scan, Change, LogRow, Past, answer_of_row}
use Rattle.wc_model.specs.Run.ProcessImage.{image_after}

-- what a scan does: its steps, its outputs, and the state that it leaves
pub record ScanResult (State : Type 0) : Type 0 where
  pub steps : ℕ
  pub outputs : Outputs
  pub after : State

-- the scans of a program: from a state, an image and a moment
abbrev pub Scans : Type 0 → Type 0
Scans State = State → Image → ℕ → ScanResult State

-- a program with a scale: its scans, and what a change to the next program makes of a state
pub record Program (State : Type 0) : Type 0 where
  pub scan : Scans State
  pub change : State → State

-- a line of the report: a scan's, or one with the line's answer to a row
pub data ReportLine : Type 0 where
  ScanLine : (ms steps : ℕ) (outputs : Outputs) → ReportLine
  AnswerLine : (ms : ℕ) (bytes : List ℕ) → ReportLine

-- numbers, each after a space
abbrev pub spaced_numbers : List ℤ → List ℕ
spaced_numbers [] = []
spaced_numbers (z ∷ zs) = codes " " ++ signed_decimal z ++ spaced_numbers zs

-- the bytes of a line: `S`, moment, steps, bits and words; or `L`, moment and hex
abbrev pub line_text : ReportLine → List ℕ
line_text (ScanLine ms steps outputs) =
    codes "S " ++ decimal ms ++ codes " " ++ decimal steps ++ codes " " ++ hex_of_word outputs.bits
    ++ spaced_numbers outputs.words ++ (10 ∷ [])
line_text (AnswerLine ms bytes) = codes "L " ++ decimal ms ++ codes " " ++ hex_of_bytes bytes ++ (10 ∷ [])

-- whether a line is a scan's
abbrev pub is_scan_line : ReportLine → Bool
is_scan_line (ScanLine ms steps outputs) = true
is_scan_line (AnswerLine ms bytes) = false

-- whether it has an answer
abbrev pub is_answer_line : ReportLine → Bool
is_answer_line (ScanLine ms steps outputs) = false
is_answer_line (AnswerLine ms bytes) = true

-- the line of an answer, and none for an empty one
abbrev pub answer_line : ℕ → List ℕ → List ReportLine
answer_line ms [] = []
answer_line ms (byte ∷ bytes) = AnswerLine ms (byte ∷ bytes) ∷ []

-- the line of a scan
abbrev pub scan_line : {State : Type 0} → ℕ → ScanResult State → List ReportLine
scan_line ms result = ScanLine ms result.steps result.outputs ∷ []

-- the state after a row, if it was this one before
abbrev pub state_with : {State : Type 0} → PlateData → Program State → RowData → ℕ → Past → State → State
state_with p program (Counts counts) ms before state = state
state_with p program (Bytes bytes) ms before state = state
state_with p program (Inputs inputs) ms before state = state
state_with p program Scan ms before state = (program.scan state (image_after p before) ms).after
state_with p program Change ms before state = program.change state

-- the state that the scans and changes of the rows so far have left, from a first one
abbrev pub state_after : {State : Type 0} → PlateData → Program State → State → Past → State
state_after p program start [] = start
state_after p program start (row ∷ before) =
    state_with p program row.brings row.ms before (state_after p program start before)

-- the lines of a row: a scan's of a scan row, from the image of the rows before it and the state left by them; the line's
-- answer; and none of a change
abbrev pub lines_with : {State : Type 0} → PlateData → Program State → State → RowData → Past → LogRow → List ReportLine
lines_with p program start (Counts counts) before row = []
lines_with p program start (Bytes bytes) before row = answer_line row.ms (answer_of_row p before row)
lines_with p program start (Inputs inputs) before row = []
lines_with p program start Scan before row =
    scan_line row.ms (program.scan (state_after p program start before) (image_after p before) row.ms)
lines_with p program start Change before row = []

-- the lines of the rows that follow those so far
abbrev pub report_lines : {State : Type 0} → PlateData → Program State → State → Past → List LogRow → List ReportLine
report_lines p program start before [] = []
report_lines p program start before (row ∷ rows) =
    lines_with p program start row.brings before row ++ report_lines p program start (row ∷ before) rows

-- the lines with no program: the answers alone
abbrev pub answer_lines : PlateData → Past → List LogRow → List ReportLine
answer_lines p before [] = []
answer_lines p before (row ∷ rows) = answer_line row.ms (answer_of_row p before row) ++ answer_lines p (row ∷ before) rows

-- the bytes of lines, joined
abbrev pub report_text : List ReportLine → List ℕ
report_text lines = flat_map line_text lines

-- what a run with no program writes
abbrev pub line_report : PlateData → List LogRow → List ℕ
line_report p rows = report_text (answer_lines p [] rows)

-- what a run writes, with a program from its first state
abbrev pub report : {State : Type 0} → PlateData → Program State → State → List LogRow → List ℕ
report p program start rows = report_text (report_lines p program start [] rows)

-- what a run writes that keeps the last n scans: all answers, then those scans
abbrev pub report_last : {State : Type 0} → ℕ → PlateData → Program State → State → List LogRow → List ℕ
report_last n p program start rows =
    let lines = report_lines p program start [] rows in
    report_text (filter is_answer_line lines) ++ report_text (last_items n (filter is_scan_line lines))
