-- The rows of a log are in order, and what they bring is in its range.
use Rattle.std.proofs.Common.{◌≡◌, ◌==◌, ℕ, suc, ◌≤◌, ◌<◌, ◌^◌, ◌+◌, ◌*◌, Bool, true, false, ◌&&◌, List, [], ◌∷◌, codes, length, Option, Some, None, Result, Ok, Err, if◌then◌else◌, refl, subst, arith}
use Rattle.wc_model.proofs.Common.{and_parts, leb-true, eqb-true, nat_tests, ints, number_lt, digit_value, is_digit, AllBelowBase, number_from_digits, bytes_eq}
use Rattle.std.specs.Prelude.{ℤ, int_le, nat_le, nat_lt, option_map}
use Rattle.wc_laws_instrument.specs.Logs.{IsDataInRange, AreInOrder, RowsAreInOrder}
use Rattle.wc_model.specs.Definitions.{least_sample, greatest_sample, byte_of_digits, bytes_of_hex, with_byte, Record, brings_or, counts_of, first_row, greatest_moment, has_fields, inputs_word_of, is_in_order, last_moment, line_chunk_of, log_after, log_with, longest_chunk, moment_of, most_rows, number_within, row_at, row_data_of, row_from, row_of, row_of_fields, scan_of_data, where_passes, whole_of, change_of_data, RowData, Counts, Bytes, Inputs, Scan, Change, LogRow}

-- what passes a test
passes : {A : Type 0} (test : A → Bool) (o : Option A) (value : A) → where_passes test o ≡ Some value → (o ≡ Some value) × (test value ≡ true)
passes test None value e = absurd (cc)
passes test (Some found) value e = by_test (test found) refl e
  where
    by_test : (b : Bool) → test found ≡ b → (if b then Some found else None) ≡ Some value → (Some found ≡ Some value) × (test value ≡ true)
    by_test true is f = let same : found ≡ value = cc in (f, subst (λ v. test v ≡ true) same is)
    by_test false is f = absurd (cc)

-- the byte of two digits
byte_below : (high low byte : ℕ) → byte_of_digits high low ≡ Some byte → byte < 256
byte_below high low byte e = by_digits (is_digit high 16) (is_digit low 16) refl refl e
  where
    by_digits : (h l : Bool) → is_digit high 16 ≡ h → is_digit low 16 ≡ l → (if h && l then Some (16 * digit_value high + digit_value low) else None) ≡ Some byte → byte < 256
    by_digits true true e f g =
        let h : digit_value high < 16 = grind (arith, nat_tests, e) in
        let l : digit_value low < 16 = grind (arith, nat_tests, f) in
        let same : 16 * digit_value high + digit_value low ≡ byte = cc in
        omega (arith, h, l, same)
    by_digits true false e f g = absurd (cc)
    by_digits false l e f g = absurd (cc)

-- the bytes of pairs of digits
bytes_below : (text bytes : List ℕ) → bytes_of_hex text ≡ Some bytes → AllBelowBase 256 bytes
bytes_below [] bytes e = let same : [] ≡ bytes = cc in subst (AllBelowBase 256) same tt
bytes_below (digit ∷ []) bytes e = absurd (cc)
bytes_below (high ∷ low ∷ rest) bytes e = by_parts (byte_of_digits high low) (bytes_of_hex rest) (byte_below high low) (bytes_below rest) e
  where
    by_parts : (b : Option ℕ) (o : Option (List ℕ)) → ((byte : ℕ) → b ≡ Some byte → byte < 256) → ((more : List ℕ) → o ≡ Some more → AllBelowBase 256 more) → with_byte b o ≡ Some bytes → AllBelowBase 256 bytes
    by_parts None o first further f = absurd (cc)
    by_parts (Some byte) None first further f = absurd (cc)
    by_parts (Some byte) (Some more) first further f = let same : byte ∷ more ≡ bytes = cc in subst (AllBelowBase 256) same (first byte refl, further more refl)

-- counts
counts_in_range : (text : List ℕ) (counts : ℤ) → counts_of text ≡ Some counts → IsDataInRange (Counts counts)
counts_in_range text counts e =
    let test = passes (λ counts. int_le least_sample counts && int_le counts greatest_sample) (whole_of text) counts e in
    let parts : (int_le least_sample counts ≡ true) × (int_le counts greatest_sample ≡ true) = and_parts (int_le least_sample counts) (int_le counts greatest_sample) test.1 in
    (omega (arith, ints), omega (arith, ints))

-- bytes on the line
chunk_in_range : (text bytes : List ℕ) → line_chunk_of text ≡ Some bytes → IsDataInRange (Bytes bytes)
chunk_in_range text bytes e =
    let test = passes (λ bytes. nat_le (length bytes) longest_chunk) (bytes_of_hex text) bytes e in
    (leb-true (length bytes) longest_chunk test.1, bytes_below text bytes test.0)

-- inputs: two bytes
word_in_range : (text : List ℕ) (inputs : ℕ) → inputs_word_of text ≡ Some inputs → IsDataInRange (Inputs inputs)
word_in_range text inputs e = by_bytes (where_passes (λ bytes. length bytes == 2) (bytes_of_hex text)) refl e
  where
    by_bytes : (o : Option (List ℕ)) → where_passes (λ bytes. length bytes == 2) (bytes_of_hex text) ≡ o → option_map (number_from_digits 256) o ≡ Some inputs → inputs < 2 ^ 16
    by_bytes None f g = absurd (cc)
    by_bytes (Some bytes) f g =
        let test = passes (λ bytes. length bytes == 2) (bytes_of_hex text) bytes f in
        let two : length bytes ≡ 2 = eqb-true (length bytes) 2 test.1 in
        let below : number_from_digits 256 bytes < 256 ^ length bytes = number_lt 256 bytes (bytes_below text bytes test.0) in
        let same : number_from_digits 256 bytes ≡ inputs = cc in
        subst (λ n. n < 2 ^ 16) same (subst (λ n. number_from_digits 256 bytes < 256 ^ n) two below)

-- a value with its form
brought : {A : Type 0} (refusal : ℕ) (format : A → RowData) (o : Option A) (brings : RowData) → brings_or refusal format o ≡ Ok brings → ((value : A) → o ≡ Some value → IsDataInRange (format value)) → IsDataInRange brings
brought refusal format None brings e known = absurd (cc)
brought refusal format (Some value) brings e known = let same : format value ≡ brings = cc in subst IsDataInRange same (known value refl)

-- a scan
scan_in_range : (text : List ℕ) (brings : RowData) → scan_of_data text ≡ Ok brings → IsDataInRange brings
scan_in_range [] brings e = let same : Scan ≡ brings = cc in subst IsDataInRange same tt
scan_in_range (byte ∷ bytes) brings e = absurd (cc)

-- a change
change_in_range : (text : List ℕ) (brings : RowData) → change_of_data text ≡ Ok brings → IsDataInRange brings
change_in_range [] brings e = let same : Change ≡ brings = cc in subst IsDataInRange same tt
change_in_range (byte ∷ bytes) brings e = absurd (cc)

-- if one of two results is referred to, what holds of both holds
either : (b : Bool) (first second : Result RowData ℕ) (brings : RowData) → (if b then first else second) ≡ Ok brings → (first ≡ Ok brings → IsDataInRange brings) → (second ≡ Ok brings → IsDataInRange brings) → IsDataInRange brings
either true first second brings e one other = one e
either false first second brings e one other = other e

-- what any kind and data bring
data_in_range : (kind text : List ℕ) (brings : RowData) → row_data_of kind text ≡ Ok brings → IsDataInRange brings
data_in_range kind text brings e =
    either (bytes_eq kind (codes "C")) _ _ brings e (λ f. brought 605 Counts (counts_of text) brings f (counts_in_range text)) (λ f.
    either (bytes_eq kind (codes "L")) _ _ brings f (λ g. brought 606 Bytes (line_chunk_of text) brings g (chunk_in_range text)) (λ g.
    either (bytes_eq kind (codes "I")) _ _ brings g (λ h. brought 606 Inputs (inputs_word_of text) brings h (word_in_range text)) (λ h.
    either (bytes_eq kind (codes "S")) _ _ brings h (λ k. scan_in_range text brings k) (λ k.
    either (bytes_eq kind (codes "P")) _ _ brings k (λ m. change_in_range text brings m) (λ m. absurd (cc))))))

-- the moment before which no row may be
abbrev pub earliest_after : Option ℕ → ℕ
earliest_after None = 0
earliest_after (Some last) = last

in_order : (last : Option ℕ) (ms : ℕ) → is_in_order last ms ≡ true → earliest_after last ≤ ms
in_order None ms e = omega arith
in_order (Some last) ms e = leb-true last ms e

-- a row after a last row
pub record Follows (number : ℕ) (last moment : Option ℕ) (row : LogRow) : Type 0 where
  pub numbered : row.number ≡ number
  pub small : number ≤ most_rows
  pub in_order : earliest_after last ≤ row.ms
  pub below : row.ms ≤ greatest_moment
  pub in_range : IsDataInRange row.brings
  pub moment_is : moment ≡ Some row.ms

moment_below : (text : List ℕ) (ms : ℕ) → moment_of text ≡ Some ms → ms ≤ greatest_moment
moment_below text ms e = let test = passes (λ ms. nat_le ms greatest_moment) (number_within 13 text) ms e in leb-true ms greatest_moment test.1

-- the row of a moment, a kind and data
row_follows : (number : ℕ) (last : Option ℕ) (moment kind text : List ℕ) (row : LogRow) → number ≤ most_rows → row_at number last (moment_of moment) kind text ≡ Ok row → Follows number last (moment_of moment) row
row_follows number last moment kind text row small e = by_moment (moment_of moment) refl e
  where
    by_data : (ms : ℕ) → moment_of moment ≡ Some ms → is_in_order last ms ≡ true → (r : Result RowData ℕ) → row_data_of kind text ≡ r → row_from number ms r ≡ Ok row → Follows number last (Some ms) row
    by_data ms m o (Err refusal) f g = absurd (cc)
    by_data ms m o (Ok brings) f g =
        let same : record { number = number; ms = ms; brings = brings } ≡ row = cc in
        subst (Follows number last (Some ms)) same (record {
          numbered = refl;
          small = small;
          in_order = in_order last ms o;
          below = moment_below moment ms m;
          in_range = data_in_range kind text brings f;
          moment_is = refl;
        })

    by_order : (ms : ℕ) → moment_of moment ≡ Some ms → (b : Bool) → is_in_order last ms ≡ b → (if b then row_from number ms (row_data_of kind text) else Err 603) ≡ Ok row → Follows number last (Some ms) row
    by_order ms m true o f = by_data ms m o (row_data_of kind text) refl f
    by_order ms m false o f = absurd (cc)

    by_moment : (o : Option ℕ) → moment_of moment ≡ o → row_at number last o kind text ≡ Ok row → Follows number last o row
    by_moment None m f = absurd (cc)
    by_moment (Some ms) m f = by_order ms m (is_in_order last ms) refl f

-- the row of any fields
fields_follow : (before : List Record) (number : ℕ) (last : Option ℕ) (fields : Record) (row : LogRow) → number ≤ most_rows → row_of_fields number last fields ≡ Ok row → Follows number last (last_moment (fields ∷ before)) row
fields_follow before number last [] row small e = absurd (cc)
fields_follow before number last (a ∷ []) row small e = absurd (cc)
fields_follow before number last (a ∷ b ∷ []) row small e = absurd (cc)
fields_follow before number last (moment ∷ kind ∷ text ∷ []) row small e = row_follows number last moment kind text row small e
fields_follow before number last (a ∷ b ∷ c ∷ d ∷ more) row small e = absurd (cc)

-- a record's row, after the records before it
record_follows : (before : List Record) (fields : Record) (row : LogRow) → row_of before fields ≡ Ok row → Follows (suc (length before)) (last_moment before) (last_moment (fields ∷ before)) row
record_follows before fields row e = by_count (nat_lt most_rows (suc (length before))) refl e
  where
    by_count : (b : Bool) → nat_lt most_rows (suc (length before)) ≡ b → (if b then Err 607 else row_of_fields (suc (length before)) (last_moment before) fields) ≡ Ok row → Follows (suc (length before)) (last_moment before) (last_moment (fields ∷ before)) row
    by_count true many f = absurd (cc)
    by_count false many f = let small : suc (length before) ≤ most_rows = grind (arith, nat_tests, many) in fields_follow before (suc (length before)) (last_moment before) fields row small f

-- the rows after some records
rows_follow : (before records : List Record) → AreInOrder (suc (length before)) (earliest_after (last_moment before)) (log_after before records).rows
rows_follow before [] = tt
rows_follow before (fields ∷ records) = by_row (row_of before fields) refl (rows_follow (fields ∷ before) records)
  where
    by_row : (r : Result LogRow ℕ) → row_of before fields ≡ r
        → AreInOrder (suc (suc (length before))) (earliest_after (last_moment (fields ∷ before))) (log_after (fields ∷ before) records).rows → AreInOrder (suc (length before)) (earliest_after (last_moment before)) (log_with before r (log_after (fields ∷ before) records)).rows
    by_row (Err number) e more = tt
    by_row (Ok row) e more =
        let k = record_follows before fields row e in (
          k.numbered,
          k.small,
          k.in_order,
          k.below,
          k.in_range,
          subst (λ (o : Option ℕ). AreInOrder (suc (suc (length before))) (earliest_after o) (log_after (fields ∷ before) records).rows) k.moment_is more,
        )

-- what is not before a moment is not before an earlier one
from_earlier : (number earliest earlier : ℕ) (rows : List LogRow) → earlier ≤ earliest → AreInOrder number earliest rows → AreInOrder number earlier rows
from_earlier number earliest earlier [] le order = tt
from_earlier number earliest earlier (row ∷ rows) le order = (order.0, order.1, (let known = order.2 in omega (arith, le, known)), order.3, order.4, order.5)

pub rows_are_in_order : RowsAreInOrder
rows_are_in_order [] = tt
rows_are_in_order (fields ∷ records) = by_test (has_fields first_row fields)
  where
    by_test : (b : Bool) → AreInOrder 2 0 (if b then log_after (fields ∷ []) records else record { rows = []; refusal = Some (record { number = 601; row = 1 }) }).rows
    by_test true = from_earlier 2 (earliest_after (last_moment (fields ∷ []))) 0 (log_after (fields ∷ []) records).rows (omega arith) (rows_follow (fields ∷ []) records)
    by_test false = tt
