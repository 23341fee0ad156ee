-- The line does not depend on scans, inputs, programs and their changes.
use Rattle.wc_model.proofs.Common.{◌≡◌, ℕ, List, [], ◌∷◌, ◌++◌, refl, ap, sym, ◌∙◌, append-nil, filter-append}
use Rattle.std.specs.Prelude.{filter, map}
use Rattle.wc_model.specs.Definitions.{last_items, indicator_rows, IsFreeOfScans, IsFreeOfPrograms, PlateData, Program, is_answer_line, is_scan_line, answer_line, lines_with, report_lines, answer_lines, report_text, RowData, Counts, Bytes, Inputs, Scan, Change, LogRow, Past, line_bytes, line_bytes_in, history_with, history_of, answer_with, answer_of_row}

-- a row adds the same bytes, whether scans, inputs and changes are there or not
bytes_with : (number ms : ℕ) (brings : RowData) (before : Past) → line_bytes before ≡ line_bytes (indicator_rows before) →
    line_bytes (record { number = number; ms = ms; brings = brings } ∷ before)
    ≡ line_bytes (indicator_rows (record { number = number; ms = ms; brings = brings } ∷ before))
bytes_with number ms (Counts counts) before e = ap (λ b. b ++ []) e
bytes_with number ms (Bytes bytes) before e = ap (λ b. b ++ bytes) e
bytes_with number ms (Inputs inputs) before e = append-nil (line_bytes before) ∙ e
bytes_with number ms Scan before e = append-nil (line_bytes before) ∙ e
bytes_with number ms Change before e = append-nil (line_bytes before) ∙ e

-- the line's bytes are those of the rows without scans, inputs and changes
same_bytes : (before : Past) → line_bytes before ≡ line_bytes (indicator_rows before)
same_bytes [] = refl
same_bytes (row ∷ before) = bytes_with row.number row.ms row.brings before (same_bytes before)

-- a row adds the same to the history
history_with_row : (number ms : ℕ) (brings : RowData) (before : Past) → history_of before ≡ history_of (indicator_rows before) →
    history_of (record { number = number; ms = ms; brings = brings } ∷ before)
    ≡ history_of (indicator_rows (record { number = number; ms = ms; brings = brings } ∷ before))
history_with_row number ms (Counts counts) before e = λ i. history_with (Counts counts) (same_bytes before i) (e i)
history_with_row number ms (Bytes bytes) before e = λ i. history_with (Bytes bytes) (same_bytes before i) (e i)
history_with_row number ms (Inputs inputs) before e = e
history_with_row number ms Scan before e = e
history_with_row number ms Change before e = e

-- the history is that of the rows without scans, inputs and changes
same_history : (before : Past) → history_of before ≡ history_of (indicator_rows before)
same_history [] = refl
same_history (row ∷ before) = history_with_row row.number row.ms row.brings before (same_history before)

-- so is a row's answer
same_answer : (p : PlateData) (before : Past) (row : LogRow) → answer_of_row p before row ≡ answer_of_row p (indicator_rows before) row
same_answer p before row = λ i. answer_with p row.brings (same_bytes before i) (same_history before i)

-- the answers to a row and to the rows after it
lines_with_row : (p : PlateData) (before : Past) (number ms : ℕ) (brings : RowData) (rows : List LogRow) →
    answer_lines p (record { number = number; ms = ms; brings = brings } ∷ before) rows
    ≡ answer_lines p (indicator_rows (record { number = number; ms = ms; brings = brings } ∷ before)) (indicator_rows rows) →
    answer_lines p before (record { number = number; ms = ms; brings = brings } ∷ rows)
    ≡ answer_lines p (indicator_rows before) (indicator_rows (record { number = number; ms = ms; brings = brings } ∷ rows))
lines_with_row p before number ms (Counts counts) rows e = e
lines_with_row p before number ms (Bytes bytes) rows e =
    λ i. answer_line ms (same_answer p before (record { number = number; ms = ms; brings = Bytes bytes }) i) ++ e i
lines_with_row p before number ms (Inputs inputs) rows e = e
lines_with_row p before number ms Scan rows e = e
lines_with_row p before number ms Change rows e = e

-- the answers are those of the rows without scans, inputs and changes
same_lines : (p : PlateData) (before : Past) (rows : List LogRow) →
    answer_lines p before rows ≡ answer_lines p (indicator_rows before) (indicator_rows rows)
same_lines p before [] = refl
same_lines p before (row ∷ rows) =
    lines_with_row p before row.number row.ms row.brings rows (same_lines p (row ∷ before) rows)

-- a row of a moment that brings this; its number is not looked at
abbrev row_of_moment : ℕ × RowData → LogRow
row_of_moment moment = record { number = 0; ms = moment.0; brings = moment.1 }

-- rows by their moments alone
abbrev by_moments : List LogRow → List LogRow
by_moments rows = map row_of_moment (map (λ row. (row.ms, row.brings)) rows)

-- they have the same bytes and history
bytes_of_moments : (before : Past) → line_bytes (by_moments before) ≡ line_bytes before
bytes_of_moments [] = refl
bytes_of_moments (row ∷ before) = ap (λ b. b ++ line_bytes_in row.brings) (bytes_of_moments before)

history_of_moments : (before : Past) → history_of (by_moments before) ≡ history_of before
history_of_moments [] = refl
history_of_moments (row ∷ before) = λ i. history_with row.brings (bytes_of_moments before i) (history_of_moments before i)

-- and the same answers
lines_by_moments : (p : PlateData) (before rows : List LogRow) → answer_lines p (by_moments before) (by_moments rows) ≡ answer_lines p before rows
lines_by_moments p before [] = refl
lines_by_moments p before (row ∷ rows) =
    λ i. answer_line row.ms (answer_with p row.brings (bytes_of_moments before i) (history_of_moments before i)) ++ lines_by_moments p (row ∷ before) rows i

-- scans, inputs and changes may be taken out and put in
pub is_free_of_scans : (p : PlateData) → IsFreeOfScans p
is_free_of_scans p = record {
  row = same_answer p;
  log = λ rows others e.
      same_lines p [] rows ∙ sym (lines_by_moments p [] (indicator_rows rows))
      ∙ ap (λ moments. answer_lines p [] (map row_of_moment moments)) e
      ∙ lines_by_moments p [] (indicator_rows others) ∙ sym (same_lines p [] others);
}

-- the answer's line is one
pub answers_kept : (ms : ℕ) (bytes : List ℕ) → filter is_answer_line (answer_line ms bytes) ≡ answer_line ms bytes
answers_kept ms [] = refl
answers_kept ms (byte ∷ bytes) = refl

module _ {State : Type 0} (p : PlateData) (program : Program State) (start : State) where
  -- of the lines of a row the answers are those with no program
  answers_of_row : (brings : RowData) (before : Past) (number ms : ℕ) →
      filter is_answer_line (lines_with p program start brings before (record { number = number; ms = ms; brings = brings }))
      ≡ answer_line ms (answer_of_row p before (record { number = number; ms = ms; brings = brings }))
  answers_of_row (Counts counts) before number ms = refl
  answers_of_row (Bytes bytes) before number ms = answers_kept ms (answer_of_row p before (record { number = number; ms = ms; brings = Bytes bytes }))
  answers_of_row (Inputs inputs) before number ms = refl
  answers_of_row Scan before number ms = refl
  answers_of_row Change before number ms = refl

  -- of the lines of a report too
  answers_of_rows : (before : Past) (rows : List LogRow) →
      filter is_answer_line (report_lines p program start before rows) ≡ answer_lines p before rows
  answers_of_rows before [] = refl
  answers_of_rows before (row ∷ rows) =
      filter-append is_answer_line (lines_with p program start row.brings before row) (report_lines p program start (row ∷ before) rows)
      ∙ λ i. answers_of_row row.brings before row.number row.ms i ++ answers_of_rows (row ∷ before) rows i

  -- the answers in a report are those of a run with no program
  pub is_free_of_programs : (rows : List LogRow) → IsFreeOfPrograms p program start rows
  is_free_of_programs rows = record {
    lines = answers_of_rows [] rows;
    bytes = ap report_text (answers_of_rows [] rows);
    last = λ n. ap (λ lines. report_text lines ++ report_text (last_items n (filter is_scan_line (report_lines p program start [] rows)))) (answers_of_rows [] rows);
  }
