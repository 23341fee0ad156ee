-- What the worked examples share: two plates, and short words for rows.
use Rattle.std.specs.Prelude.{ℕ, suc, ◌+◌, ◌%◌, List, [], ◌∷◌, ◌++◌, replicate, codes, ℤ, pos, Some, Result, Ok, Err}
use Rattle.std.specs.List.{concat}
use Rattle.wc_model.specs.Definitions.{Sample, History, LogOf, first_row, log_of, PlateData, grams, kilograms, Program, RowData, Counts, Bytes, Scan, LogRow, answers}
use Rattle.wc_model.specs.Instrument.PlateTable.{Table, Text, Whole, plate_of}

-- 15 kg in steps of 5 g: 3000 intervals of 200 counts, from 10000 on
abbrev pub plate_of_15_kg : PlateData
plate_of_15_kg = record {
  unit = kilograms;
  decimals = 3;
  max = 15000;
  e = 5;
  n = 3000;
  zero_counts = pos 10000;
  span_counts = 600000;
  window = 4;
}

-- 2500 g in steps of 5 g, with no decimals: 500 intervals of 4 counts
abbrev pub plate_of_2500_g : PlateData
plate_of_2500_g = record {
  unit = grams;
  decimals = 0;
  max = 2500;
  e = 5;
  n = 500;
  zero_counts = pos 0;
  span_counts = 2000;
  window = 2;
}

-- a history of four samples alone, all of these counts
abbrev pub four_of : ℤ → History
four_of counts = replicate 4 (Sample counts)

-- four rows of these counts
abbrev pub four_rows : ℤ → List RowData
four_rows counts = replicate 4 (Counts counts)

-- a row with a request: LF, text, CR
abbrev pub asks : List ℕ → RowData
asks text = Bytes (10 ∷ text ++ (13 ∷ []))

-- rows at moment 0, from a number on
abbrev pub rows_from : ℕ → List RowData → List LogRow
rows_from number [] = []
rows_from number (brings ∷ more) = record { number = number; ms = 0; brings = brings } ∷ rows_from (suc number) more

-- what the line answers to all rows, joined
abbrev pub replies : PlateData → List RowData → List ℕ
replies p rows = concat (answers p (rows_from 2 rows))

-- an answer between its LF and CR
abbrev pub framed : List ℕ → List ℕ
framed text = 10 ∷ text ++ (13 ∷ [])

-- a record of three fields
abbrev pub three_fields : List ℕ → List ℕ → List ℕ → List (List ℕ)
three_fields moment kind text = moment ∷ kind ∷ text ∷ []

-- a log of these records, after its first row
abbrev pub log_with_rows : List (List (List ℕ)) → LogOf
log_with_rows records = log_of (first_row ∷ records)

-- a scan row with this number and moment
abbrev pub scan_row : ℕ → ℕ → LogRow
scan_row number ms = record { number = number; ms = ms; brings = Scan }

-- a program of two steps that copies the first input to the first output, keeps nothing and stays the same over a change
abbrev pub copies_first_input : Program (Unit {0})
copies_first_input = record {
  scan = λ state image ms. record {
    steps = 2;
    outputs = record { bits = image.inputs % 2; words = pos 0 ∷ pos 0 ∷ pos 0 ∷ pos 0 ∷ [] };
    after = tt;
  };
  change = λ state. state;
}

-- a program of one step that counts its scans in the first output word; a change adds 100 to what it has counted
abbrev pub counts_scans : Program ℕ
counts_scans = record {
  scan = λ count image ms. record {
    steps = 1;
    outputs = record { bits = 0; words = pos (count + 1) ∷ pos 0 ∷ pos 0 ∷ pos 0 ∷ [] };
    after = count + 1;
  };
  change = λ count. count + 100;
}

-- texts, each followed by LF
abbrev pub lines_text : List (List ℕ) → List ℕ
lines_text [] = []
lines_text (line ∷ lines) = line ++ (10 ∷ []) ++ lines_text lines

-- a table of a plate with these keys: unit, decimals, max, e, span
abbrev pub plate_table : List ℕ → ℤ → ℤ → ℤ → ℤ → Table
plate_table unit decimals max e span_counts =
    (codes "unit", Text unit) ∷ (codes "decimals", Whole decimals) ∷ (codes "max", Whole max) ∷ (codes "e", Whole e)
    ∷ (codes "zero_counts", Whole (pos 10000)) ∷ (codes "span_counts", Whole span_counts) ∷ (codes "window", Whole (pos 4)) ∷ []

-- the number of a refusal, 0 if there is none
abbrev pub refusal_in : Result PlateData ℕ → ℕ
refusal_in (Ok plate) = 0
refusal_in (Err number) = number

-- the number of the refusal of a table, 0 if it is accepted
abbrev pub refusal_of_table : Table → ℕ
refusal_of_table table = refusal_in (plate_of (Some table))

-- the text of the plate of 15 kg; 34 is the quotation mark
abbrev pub plate_text : List ℕ
plate_text = lines_text
    ((codes "unit = " ++ 34 ∷ codes "kg" ++ 34 ∷ []) ∷ codes "decimals = 3" ∷ codes "max = 15000" ∷ codes "e = 5"
    ∷ codes "zero_counts = 10000" ∷ codes "span_counts = 600000" ∷ codes "window = 4" ∷ [])
