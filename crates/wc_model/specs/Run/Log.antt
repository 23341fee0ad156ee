-- The log: its rows up to the first that is refused, and that refusal. The form of the rows, the order of the checks
-- and their numbers are the profile's own. A record is the list of its fields, as reading the CSV text gives them.
use Rattle.std.specs.Prelude.{ℕ, suc, ◌-◌, Bool, true, false, ◌&&◌, ◌==◌, nat_le, nat_lt, List, [], ◌∷◌, length, map, codes, ℤ, pos, neg_ℤ, int_le, Option, Some, None, option_map, Result, Ok, Err, if◌then◌else◌, bytes_eq}
use Rattle.std.specs.Char.{is_ascii_digit}
use Rattle.std.specs.Int.Digits.{number_from_digits}
use Rattle.std.specs.List.{list_all}
use Rattle.wc_model.specs.Instrument.Plates.{least_sample, greatest_sample}
use Rattle.wc_model.specs.Run.Hex.{bytes_of_hex}
use Rattle.wc_model.specs.Run.Rows.{RowData, Counts, Bytes, Inputs, Scan, Change, LogRow}

-- a record: its fields, each a list of bytes
abbrev pub Record : Type 0
Record = List (List ℕ)

-- the first row of a log
abbrev pub first_row : Record
first_row = codes "ms" ∷ codes "kind" ∷ codes "data" ∷ []

-- whether a record has these fields
abbrev pub has_fields : Record → Record → Bool
has_fields [] [] = true
has_fields [] (field ∷ fields) = false
has_fields (wanted ∷ others) [] = false
has_fields (wanted ∷ others) (field ∷ fields) = bytes_eq wanted field && has_fields others fields

-- the number that 1 to n digits write
abbrev pub number_within : ℕ → List ℕ → Option ℕ
number_within most text =
    if nat_le 1 (length text) && nat_le (length text) most && list_all is_ascii_digit text
    then Some (number_from_digits 10 (map (λ digit. digit - 48) text)) else None

-- a value that passes a test
abbrev pub where_passes : {A : Type 0} → (A → Bool) → Option A → Option A
where_passes test None = None
where_passes test (Some value) = if test value then Some value else None

-- the greatest moment, of 40 bits
abbrev pub greatest_moment : ℕ
greatest_moment = 1099511627775

-- the greatest number of bytes that a row brings to the line
abbrev pub longest_chunk : ℕ
longest_chunk = 4096

-- the greatest number of a row
abbrev pub most_rows : ℕ
most_rows = 1000000

-- a moment: 1 to 13 digits, of at most 40 bits
abbrev pub moment_of : List ℕ → Option ℕ
moment_of text = where_passes (λ ms. nat_le ms greatest_moment) (number_within 13 text)

-- a whole number: 1 to 10 digits, and `-` before them if it is negative
abbrev pub whole_of : List ℕ → Option ℤ
whole_of [] = None
whole_of (first ∷ rest) =
    if first == 45 then option_map (λ n. neg_ℤ (pos n)) (number_within 10 rest)
    else option_map pos (number_within 10 (first ∷ rest))

-- counts: a whole number in the range of a sample
abbrev pub counts_of : List ℕ → Option ℤ
counts_of text = where_passes (λ counts. int_le least_sample counts && int_le counts greatest_sample) (whole_of text)

-- line bytes: hexadecimal digits of no more bytes than a row may bring
abbrev pub line_chunk_of : List ℕ → Option (List ℕ)
line_chunk_of text = where_passes (λ bytes. nat_le (length bytes) longest_chunk) (bytes_of_hex text)

-- inputs: four hexadecimal digits
abbrev pub inputs_word_of : List ℕ → Option ℕ
inputs_word_of text =
    option_map (number_from_digits 256) (where_passes (λ bytes. length bytes == 2) (bytes_of_hex text))

-- what a row brings, or the number of its refusal if the data is at fault
abbrev pub brings_or : {A : Type 0} → ℕ → (A → RowData) → Option A → Result RowData ℕ
brings_or refusal format None = Err refusal
brings_or refusal format (Some value) = Ok (format value)

-- a scan has no data
abbrev pub scan_of_data : List ℕ → Result RowData ℕ
scan_of_data [] = Ok Scan
scan_of_data (byte ∷ bytes) = Err 608

-- nor has a change of the program
abbrev pub change_of_data : List ℕ → Result RowData ℕ
change_of_data [] = Ok Change
change_of_data (byte ∷ bytes) = Err 608

-- what a kind and its data bring
abbrev pub row_data_of : List ℕ → List ℕ → Result RowData ℕ
row_data_of kind text =
    if bytes_eq kind (codes "C") then brings_or 605 Counts (counts_of text)
    else if bytes_eq kind (codes "L") then brings_or 606 Bytes (line_chunk_of text)
    else if bytes_eq kind (codes "I") then brings_or 606 Inputs (inputs_word_of text)
    else if bytes_eq kind (codes "S") then scan_of_data text
    else if bytes_eq kind (codes "P") then change_of_data text
    else Err 604

-- a row with these numbers
abbrev pub row_from : ℕ → ℕ → Result RowData ℕ → Result LogRow ℕ
row_from number ms (Ok brings) = Ok (record { number = number; ms = ms; brings = brings })
row_from number ms (Err refusal) = Err refusal

-- row order: whether a moment is not before the last row's
abbrev pub is_in_order : Option ℕ → ℕ → Bool
is_in_order None ms = true
is_in_order (Some last) ms = nat_le last ms

-- the row of a moment, a kind and data, after a last row of that moment
abbrev pub row_at : ℕ → Option ℕ → Option ℕ → List ℕ → List ℕ → Result LogRow ℕ
row_at number last None kind text = Err 602
row_at number last (Some ms) kind text =
    if is_in_order last ms then row_from number ms (row_data_of kind text) else Err 603

-- the row that three fields write
abbrev pub row_of_fields : ℕ → Option ℕ → Record → Result LogRow ℕ
row_of_fields number last [] = Err 601
row_of_fields number last (a ∷ []) = Err 601
row_of_fields number last (a ∷ b ∷ []) = Err 601
row_of_fields number last (moment ∷ kind ∷ text ∷ []) = row_at number last (moment_of moment) kind text
row_of_fields number last (a ∷ b ∷ c ∷ d ∷ more) = Err 601

-- the moment of the last row, if a record before it was one
abbrev pub last_moment : List Record → Option ℕ
last_moment [] = None
last_moment ([] ∷ earlier) = None
last_moment ((moment ∷ fields) ∷ earlier) = moment_of moment

-- the row that a record writes after the records before it (newest first), or the number of its refusal
abbrev pub row_of : List Record → Record → Result LogRow ℕ
row_of before fields =
    if nat_lt most_rows (suc (length before)) then Err 607
    else row_of_fields (suc (length before)) (last_moment before) fields

-- a refusal: its number, and the row at which it is
pub record LogRefusal : Type 0 where
  pub number : ℕ
  pub row : ℕ

-- a log: its rows up to the first that is refused, and that refusal
pub record LogOf : Type 0 where
  pub rows : List LogRow
  pub refusal : Option LogRefusal

-- a row before the rest of a log
abbrev pub with_row : LogRow → LogOf → LogOf
with_row row log = record { rows = row ∷ log.rows; refusal = log.refusal }

-- a log that ends in a refusal
abbrev pub refused_at : ℕ → ℕ → LogOf
refused_at number row = record { rows = []; refusal = Some (record { number = number; row = row }) }

-- the log that a record's row begins, if the rest is known
abbrev pub log_with : List Record → Result LogRow ℕ → LogOf → LogOf
log_with before (Ok row) rest = with_row row rest
log_with before (Err number) rest = refused_at number (suc (length before))

-- the log of the records that follow those before them (newest first)
abbrev pub log_after : List Record → List Record → LogOf
log_after before [] = record { rows = []; refusal = None }
log_after before (fields ∷ records) = log_with before (row_of before fields) (log_after (fields ∷ before) records)

-- the log of all its records; the first is not a row of the log, and must be as it is written
abbrev pub log_of : List Record → LogOf
log_of [] = refused_at 601 1
log_of (fields ∷ records) = if has_fields first_row fields then log_after (fields ∷ []) records else refused_at 601 1
