-- A log that is cut is a log: its text is read back by `csv` as its rows. It goes on as the whole log does, and a cut of it is a cut
-- of the whole log. (The profile's own.)
use Rattle.std.specs.Prelude.{◌≡◌, ℕ, List, [], ◌++◌, drop, map, take, ◌+◌, length, ◌∷◌, codes, decimal, suc, ◌<◌, None}
use Rattle.std.specs.Fmt.{signed_decimal}
use Rattle.wc_laws_instrument.specs.Preludes.{GoesOnAlike, past_after, prelude_of, scale_state}
use Rattle.wc_model.specs.Definitions.{PlateData, LogRow, Past, RowData, Counts, Bytes, Inputs, Scan, Change, hex_of_bytes, hex_of_word, Record, first_row, log_of, most_rows}
use Rattle.wc_record.specs.Reading.{records_of}
use Rattle.wc_laws_instrument.specs.Logs.{AreInOrder}
use Rattle.wc_cut.specs.Cuts.{cut_log, time_of, heading_text, rows_text}

-- a row of this time that brings this; of its number nothing depends
abbrev pub row_at_time : ℕ → RowData → LogRow
row_at_time ms brings = record { number = 0; ms = ms; brings = brings }

-- the rows of the prelude of the rows so far, at the time of their last
abbrev pub prelude_rows : PlateData → Past → List LogRow
prelude_rows plate past = map (row_at_time (time_of past)) (prelude_of plate.window (scale_state plate past))

-- What is written is the text of the prelude's rows and of those after the cut; and after the prelude's rows these go on as they
-- do in the whole log.
pub record GoesOnFromTheCut (plate : PlateData) (count : ℕ) (rows : List LogRow) : Type 0 where
  pub text : cut_log count plate rows
      ≡ heading_text ++ rows_text (prelude_rows plate (past_after [] (take count rows)) ++ drop count rows)
  pub alike : GoesOnAlike plate (past_after [] (take count rows)) (past_after [] (prelude_rows plate (past_after [] (take count rows))))
      (drop count rows) (drop count rows)

-- the prelude after n rows of a log, as rows
abbrev pub opening_rows : PlateData → ℕ → List LogRow → List LogRow
opening_rows plate count rows = prelude_rows plate (past_after [] (take count rows))

-- the rows of a log that is cut after n rows
abbrev pub rows_of_cut : PlateData → ℕ → List LogRow → List LogRow
rows_of_cut plate count rows = opening_rows plate count rows ++ drop count rows

-- Who cuts a log after n rows, and what is written again after its prelude and m rows more, has byte
-- for byte the log that is cut once, after n + m rows.
abbrev pub IsCutAgain : PlateData → ℕ → ℕ → List LogRow → Type 0
IsCutAgain plate count more rows =
    cut_log (length (opening_rows plate count rows) + more) plate (rows_of_cut plate count rows)
    ≡ cut_log (count + more) plate rows

-- the kind and the data of a row
abbrev pub data_fields : RowData → Record
data_fields (Counts counts) = codes "C" ∷ signed_decimal counts ∷ []
data_fields (Bytes bytes) = codes "L" ∷ hex_of_bytes bytes ∷ []
data_fields (Inputs inputs) = codes "I" ∷ hex_of_word inputs ∷ []
data_fields Scan = codes "S" ∷ [] ∷ []
data_fields Change = codes "P" ∷ [] ∷ []

-- the fields of a row
abbrev pub row_fields : LogRow → Record
row_fields row = decimal row.ms ∷ data_fields row.brings

-- The records of a log that is cut are the heading and one for each row of the prelude and after it, with its fields.
abbrev pub IsReadBack : PlateData → ℕ → List LogRow → Type 0
IsReadBack plate count rows =
    records_of (cut_log count plate rows) ≡ first_row ∷ map row_fields (rows_of_cut plate count rows)

-- the rows, numbered on from n
abbrev pub numbered : ℕ → List LogRow → List LogRow
numbered number [] = []
numbered number (row ∷ rows) =
    record { number = number; ms = row.ms; brings = row.brings } ∷ numbered (suc number) rows

-- What is written of a log's rows, which are in order and in their ranges, is a log again, of the rows
-- of the prelude and of those after it, and none of them is refused; but a prelude can have more rows
-- than it replaces, so they must not be too many.
abbrev pub IsLogAgain : PlateData → ℕ → List LogRow → Type 0
IsLogAgain plate count rows =
    AreInOrder 2 0 rows → length (rows_of_cut plate count rows) < most_rows →
    log_of (records_of (cut_log count plate rows))
    ≡ record { rows = numbered 2 (rows_of_cut plate count rows); refusal = None }
