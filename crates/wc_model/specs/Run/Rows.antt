-- The rows of a log, and what they have brought so far. The kinds of rows are the profile's own.
use Rattle.std.specs.Prelude.{ℕ, List, [], ◌∷◌, ◌++◌, ℤ}
use Rattle.wc_model.specs.Instrument.Plates.{PlateData}
use Rattle.wc_model.specs.Instrument.WeighingHistories.{Sample, History}
use Rattle.wc_model.specs.Instrument.Requests.{requests_in}
use Rattle.wc_model.specs.Instrument.Answers.{after_requests, answers_to}

-- what a row brings: a sample, bytes on the line, inputs, a scan, or a change to the next program
pub data RowData : Type 0 where
  Counts : (counts : ℤ) → RowData
  Bytes : (bytes : List ℕ) → RowData
  Inputs : (inputs : ℕ) → RowData
  Scan : RowData
  Change : RowData

-- a row of a log: its number, its moment and what it brings
pub record LogRow : Type 0 where
  pub number : ℕ
  pub ms : ℕ
  pub brings : RowData

-- all rows so far, the newest first
abbrev pub Past : Type 0
Past = List LogRow

-- what a row adds to the line's bytes
abbrev pub line_bytes_in : RowData → List ℕ
line_bytes_in (Counts counts) = []
line_bytes_in (Bytes bytes) = bytes
line_bytes_in (Inputs inputs) = []
line_bytes_in Scan = []
line_bytes_in Change = []

-- the line's bytes so far, joined
abbrev pub line_bytes : Past → List ℕ
line_bytes [] = []
line_bytes (row ∷ before) = line_bytes before ++ line_bytes_in row.brings

-- what a row adds to the indicator's history: its sample, or the requests that its bytes complete
abbrev pub history_with : RowData → List ℕ → History → History
history_with (Counts counts) before history = Sample counts ∷ history
history_with (Bytes bytes) before history = after_requests (requests_in before bytes) history
history_with (Inputs inputs) before history = history
history_with Scan before history = history
history_with Change before history = history

-- the indicator's history so far
abbrev pub history_of : Past → History
history_of [] = []
history_of (row ∷ before) = history_with row.brings (line_bytes before) (history_of before)

-- the line's answer to what a row brings, after the line's bytes and the history before it
abbrev pub answer_with : PlateData → RowData → List ℕ → History → List ℕ
answer_with p (Counts counts) before history = []
answer_with p (Bytes bytes) before history = answers_to p (requests_in before bytes) history
answer_with p (Inputs inputs) before history = []
answer_with p Scan before history = []
answer_with p Change before history = []

-- the line's answer to a row: its requests are those whose CR is among its bytes
abbrev pub answer_of_row : PlateData → Past → LogRow → List ℕ
answer_of_row p before row = answer_with p row.brings (line_bytes before) (history_of before)

-- the answer to each row, after the rows before them
abbrev pub answers_after : PlateData → Past → List LogRow → List (List ℕ)
answers_after p before [] = []
answers_after p before (row ∷ rows) = answer_of_row p before row ∷ answers_after p (row ∷ before) rows

-- the answer to each row of a log
abbrev pub answers : PlateData → List LogRow → List (List ℕ)
answers p rows = answers_after p [] rows
