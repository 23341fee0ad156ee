-- The text of a log's rows, each as short as it can be: no leading zeros, hexadecimal digits in small letters, a line feed at the
-- end; what is written of a log that is cut: a log that goes on from there. (The profile's own.)
use Rattle.std.specs.Fmt.{signed_decimal}
use Rattle.std.specs.Prelude.{ℕ, List, [], ◌∷◌, ◌++◌, codes, decimal, flat_map, true, length, drop, take, nat_lt, nat_le, Option, Some, None, if◌then◌else◌}
use Rattle.wc_model.specs.Definitions.{hex_of_bytes, hex_of_word, RowData, Counts, Bytes, Inputs, Scan, Change, LogRow, PlateData, LogRefusal, Past, Logic}
use Rattle.wc_controller.specs.Files.{Observed}
use Rattle.wc_laws_instrument.specs.Preludes.{past_after, prelude_of, scale_state}
use Rattle.wc_run.specs.Observing.{Plan, Written}

-- the kind and the data, each after a comma
abbrev pub data_text : RowData → List ℕ
data_text (Counts counts) = codes ",C," ++ signed_decimal counts
data_text (Bytes bytes) = codes ",L," ++ hex_of_bytes bytes
data_text (Inputs inputs) = codes ",I," ++ hex_of_word inputs
data_text Scan = codes ",S,"
data_text Change = codes ",P,"

-- a row of this time that brings this
abbrev pub line_of : ℕ → RowData → List ℕ
line_of ms brings = decimal ms ++ data_text brings ++ (10 ∷ [])

-- rows of one time
abbrev pub lines_of : ℕ → List RowData → List ℕ
lines_of ms rows = flat_map (line_of ms) rows

-- a row, and rows
abbrev pub row_text : LogRow → List ℕ
row_text row = line_of row.ms row.brings

abbrev pub rows_text : List LogRow → List ℕ
rows_text rows = flat_map row_text rows

-- the first row of a log
abbrev pub heading_text : List ℕ
heading_text = codes "ms,kind,data" ++ (10 ∷ [])

-- the time of the last row so far, 0 before any
abbrev pub time_of : Past → ℕ
time_of [] = 0
time_of (row ∷ past) = row.ms

-- the heading and the prelude of the rows so far, each row of it at the time of their last
abbrev pub opening_text : PlateData → Past → List ℕ
opening_text plate past = heading_text ++ lines_of (time_of past) (prelude_of plate.window (scale_state plate past))

-- The log that goes on after n rows: the heading, the prelude of those rows, and the other rows.
abbrev pub cut_log : ℕ → PlateData → List LogRow → List ℕ
cut_log count plate rows = opening_text plate (past_after [] (take count rows)) ++ rows_text (drop count rows)

-- What is written of a log. If a row is refused, it is what is written of the rows before it, and nothing if no row after the cut has come.
abbrev pub cut_written : ℕ → Written
cut_written count plate logic None rows = cut_log count plate rows
cut_written count plate logic (Some refusal) rows = if nat_lt count (length rows) then cut_log count plate rows else []

-- whatever the logic, a run begins
abbrev pub cut_observed : ℕ → Observed
cut_observed count = record { written = cut_written count; begins = λ logic. true }

-- what is written of a row after those so far: nothing before the cut, and the opening before the first row after it
abbrev pub row_written : ℕ → PlateData → Option Logic → Past → LogRow → List ℕ
row_written count plate logic past row =
    if nat_lt (length past) count then []
    else if nat_lt count (length past) then row_text row
    else opening_text plate past ++ row_text row

-- what is written after the last row: the opening, if no row after the cut has come and none was refused
abbrev pub end_written : ℕ → PlateData → Option Logic → List LogRow → Option LogRefusal → List ℕ
end_written count plate logic rows None = if nat_le (length rows) count then opening_text plate (past_after [] rows) else []
end_written count plate logic rows (Some refusal) = []

-- both
abbrev pub cut_plan : ℕ → Plan
cut_plan count = record { at_row = row_written count; at_end = end_written count }
