-- The records of rows that are in order are read as these rows.
use Rattle.std.proofs.Common.{◌≡◌, ℕ, suc, ◌+◌, ◌-◌, ◌*◌, ◌/◌, ◌%◌, ◌^◌, ◌==◌, ◌<◌, ◌≤◌, true, false, ◌&&◌, if◌then◌else◌, List, [], ◌∷◌, length, map, refl, ap, sym, ◌∙◌, arith}
use Rattle.wc_model.proofs.Common.{le-leb, lt-leb, ne_eqb, decimal_is_IsNumeral, length-decimal-le, ints, digits_value_is, digit_value-digit_char, digit_value_digit, digit_from_value, digit_char, digit_value, is_ascii_digit, signed_decimal, AllBelowBase, number_from_digits, list_all, AllDigits}
use Rattle.std.specs.Prelude.{codes, decimal, int_le, nat_le, nat_lt, ℤ, ◌≤ℤ◌, neg_ℤ, pos, negsuc, option_map, Option, Some, None, Ok, Err}
use Rattle.wc_cut.proofs.ReadBack.{is_read_back}
use Rattle.wc_cut.specs.{rows_of_cut, data_fields, row_fields, numbered, cut_log}
use Rattle.wc_laws_instrument.specs.Logs.{AreInOrder, IsDataInRange}
use Rattle.wc_model.specs.Definitions.{PlateData, greatest_sample, least_sample, byte_of_digits, bytes_of_hex, hex_of_bytes, hex_of_word, with_byte, Record, brings_or, counts_of, first_row, greatest_moment, inputs_word_of, is_in_order, last_moment, line_chunk_of, log_after, log_of, log_with, moment_of, most_rows, number_within, row_at, row_data_of, row_from, row_of, row_of_fields, where_passes, whole_of, RowData, Counts, Bytes, Inputs, Scan, Change, LogRow}
use Rattle.wc_record.specs.Reading.{records_of}

-- the digits of a number
digits_are : (text : List ℕ) → AllDigits 10 text → (list_all is_ascii_digit text ≡ true) × (map (λ digit. digit - 48) text ≡ map digit_value text)
digits_are [] h = (refl, refl)
digits_are (digit ∷ text) h =
    let range : (48 ≤ digit) × (digit ≤ 57) = digit_from_value digit h.0 in
    let value : digit_value digit + 48 ≡ digit = digit_value_digit digit range in
    let less : digit - 48 ≡ digit_value digit = omega (arith, value) in
    let more = digits_are text h.1 in
    ((λ i. (le-leb 48 digit range.0 i && le-leb digit 57 range.1 i) && more.0 i), λ i. less i ∷ more.1 i)

number_reads : (most n : ℕ) → 0 < most → n < 10 ^ most → n < 2 ^ 64 → number_within most (decimal n) ≡ Some n
number_reads most n some fits small =
    let numeral = decimal_is_IsNumeral n small in
    let parts = digits_are (decimal n) numeral.0.1 in
    (λ i. if le-leb 1 (length (decimal n)) numeral.0.0 i && le-leb (length (decimal n)) most (length-decimal-le most n some fits small) i && parts.0 i
    then Some (number_from_digits 10 (parts.1 i)) else None)
    ∙ ap Some (sym (digits_value_is 10 (decimal n)) ∙ numeral.1)

-- a moment
moment_reads : (ms : ℕ) → ms ≤ greatest_moment → moment_of (decimal ms) ≡ Some ms
moment_reads ms early =
    ap (where_passes (λ ms. nat_le ms greatest_moment)) (number_reads 13 ms (omega arith) (omega (arith, early)) (omega (arith, early)))
    ∙ ap (λ b. if b then Some ms else None) (le-leb ms greatest_moment early)

-- counts
plain_number : (text : List ℕ) → 0 < length text → AllDigits 10 text → whole_of text ≡ option_map pos (number_within 10 text)
plain_number [] some h = absurd (omega (arith, some))
plain_number (first ∷ rest) some h =
    let range : (48 ≤ first) × (first ≤ 57) = digit_from_value first h.0 in
    ap (λ b. if b then option_map (λ n. neg_ℤ (pos n)) (number_within 10 rest) else option_map pos (number_within 10 (first ∷ rest)))
    (ne_eqb first 45 (λ e. omega (arith, range.0, e)))

whole_reads : (counts : ℤ) → least_sample ≤ℤ counts → counts ≤ℤ greatest_sample → whole_of (signed_decimal counts) ≡ Some counts
whole_reads (pos n) low high =
    let small : n ≤ 8388607 = omega (arith, ints, high) in
    let numeral = decimal_is_IsNumeral n (omega (arith, small)) in
    plain_number (decimal n) numeral.0.0 numeral.0.1
    ∙ ap (option_map pos) (number_reads 10 n (omega arith) (omega (arith, small)) (omega (arith, small)))
whole_reads (negsuc n) low high =
    let small : n ≤ 8388607 = omega (arith, ints, low) in
    ap (option_map (λ n. neg_ℤ (pos n))) (number_reads 10 (suc n) (omega arith) (omega (arith, small)) (omega (arith, small)))

counts_read : (counts : ℤ) → IsDataInRange (Counts counts) → counts_of (signed_decimal counts) ≡ Some counts
counts_read counts range =
    let low : int_le least_sample counts ≡ true = grind (arith, ints, range.0) in
    let high : int_le counts greatest_sample ≡ true = grind (arith, ints, range.1) in
    ap (where_passes (λ counts. int_le least_sample counts && int_le counts greatest_sample)) (whole_reads counts range.0 range.1)
    ∙ (λ i. if low i && high i then Some counts else None)

-- bytes
byte_reads : (byte : ℕ) → byte < 256 → byte_of_digits (digit_char (byte / 16)) (digit_char (byte % 16)) ≡ Some byte
byte_reads byte small =
    let high : digit_value (digit_char (byte / 16)) ≡ byte / 16 = digit_value-digit_char (byte / 16) (omega (arith, small)) in
    let low : digit_value (digit_char (byte % 16)) ≡ byte % 16 = digit_value-digit_char (byte % 16) (omega arith) in
    let same : 16 * (byte / 16) + byte % 16 ≡ byte = omega arith in
    (λ i. if nat_lt (high i) 16 && nat_lt (low i) 16 then Some (16 * high i + low i) else None)
    ∙ (λ i. if le-leb (suc (byte / 16)) 16 (omega (arith, small)) i && le-leb (suc (byte % 16)) 16 (omega arith) i then Some (16 * (byte / 16) + byte % 16) else None)
    ∙ ap Some same

bytes_read : (bytes : List ℕ) → AllBelowBase 256 bytes → bytes_of_hex (hex_of_bytes bytes) ≡ Some bytes
bytes_read [] h = refl
bytes_read (byte ∷ bytes) h = λ i. with_byte (byte_reads byte h.0 i) (bytes_read bytes h.1 i)

chunk_reads : (bytes : List ℕ) → IsDataInRange (Bytes bytes) → line_chunk_of (hex_of_bytes bytes) ≡ Some bytes
chunk_reads bytes range =
    ap (where_passes (λ bytes. nat_le (length bytes) 4096)) (bytes_read bytes range.1)
    ∙ ap (λ b. if b then Some bytes else None) (le-leb (length bytes) 4096 range.0)

word_reads : (word : ℕ) → word < 2 ^ 16 → inputs_word_of (hex_of_word word) ≡ Some word
word_reads word small =
    let high : word / 256 < 256 = omega (arith, small) in
    let low : word % 256 < 256 = omega arith in
    let same : (0 * 256 + word / 256) * 256 + word % 256 ≡ word = omega arith in
    ap (λ read. option_map (number_from_digits 256) (where_passes (λ bytes. length bytes == 2) read)) (bytes_read ((word / 256) ∷ (word % 256) ∷ []) (high, (low, tt)))
    ∙ ap Some same

-- a row
row_reads_at : (number ms : ℕ) (last : Option ℕ) (brings : RowData) (kind text : List ℕ) → is_in_order last ms ≡ true → ms ≤ greatest_moment → row_data_of kind text ≡ Ok brings →
    row_at number last (moment_of (decimal ms)) kind text ≡ Ok (record { number = number; ms = ms; brings = brings })
row_reads_at number ms last brings kind text order early said =
    ap (λ moment. row_at number last moment kind text) (moment_reads ms early)
    ∙ ap (λ b. if b then row_from number ms (row_data_of kind text) else Err 603) order
    ∙ ap (row_from number ms) said

row_reads : (number ms : ℕ) (last : Option ℕ) (brings : RowData) → is_in_order last ms ≡ true → ms ≤ greatest_moment → IsDataInRange brings →
    row_of_fields number last (decimal ms ∷ data_fields brings) ≡ Ok (record { number = number; ms = ms; brings = brings })
row_reads number ms last (Counts counts) order early range =
    row_reads_at number ms last (Counts counts) (codes "C") (signed_decimal counts) order early (ap (λ read. brings_or 605 Counts read) (counts_read counts range))
row_reads number ms last (Bytes bytes) order early range =
    row_reads_at number ms last (Bytes bytes) (codes "L") (hex_of_bytes bytes) order early (ap (λ read. brings_or 606 Bytes read) (chunk_reads bytes range))
row_reads number ms last (Inputs inputs) order early range =
    row_reads_at number ms last (Inputs inputs) (codes "I") (hex_of_word inputs) order early (ap (λ read. brings_or 606 Inputs read) (word_reads inputs range))
row_reads number ms last Scan order early range = row_reads_at number ms last Scan (codes "S") [] order early refl
row_reads number ms last Change order early range = row_reads_at number ms last Change (codes "P") [] order early refl

-- rows after records
rows_read : (before : List Record) (number earliest : ℕ) (rows : List LogRow) → number ≡ suc (length before) →
    ((ms : ℕ) → earliest ≤ ms → is_in_order (last_moment before) ms ≡ true) → AreInOrder number earliest rows →
    log_after before (map row_fields rows) ≡ record { rows = rows; refusal = None }
rows_read before number earliest [] is order h = refl
rows_read before number earliest (row ∷ rows) is order (own, few, after, early, range, others) =
    let within : nat_lt most_rows (suc (length before)) ≡ false = lt-leb (suc most_rows) (suc (length before)) (omega (arith, is, few)) in
    let same : suc (length before) ≡ row.number = omega (arith, is, own) in
    let row_is : row_of before (row_fields row) ≡ Ok row =
    ap (λ b. if b then Err 607 else row_of_fields (suc (length before)) (last_moment before) (row_fields row)) within
    ∙ row_reads (suc (length before)) row.ms (last_moment before) row.brings (order row.ms after) early range
    ∙ (λ i. Ok (record { number = same i; ms = row.ms; brings = row.brings })) in
    let next : log_after (row_fields row ∷ before) (map row_fields rows) ≡ record { rows = rows; refusal = None } =
    rows_read (row_fields row ∷ before) (suc number) row.ms rows (omega (arith, is))
    (λ ms later. ap (λ moment. is_in_order moment ms) (moment_reads row.ms early) ∙ le-leb row.ms ms later) others in
    λ i. log_with before (row_is i) (next i)

log_reads : (rows : List LogRow) → AreInOrder 2 0 rows → log_of (first_row ∷ map row_fields rows) ≡ record { rows = rows; refusal = None }
log_reads rows h = rows_read (first_row ∷ []) 2 0 rows refl (λ ms later. refl) h

-- of a row's number its fields say nothing
fields_numbered : (number : ℕ) (rows : List LogRow) → map row_fields (numbered number rows) ≡ map row_fields rows
fields_numbered number [] = refl
fields_numbered number (row ∷ rows) = ap (λ records. row_fields row ∷ records) (fields_numbered (suc number) rows)

pub read_again : (plate : PlateData) → 0 < plate.window → (count : ℕ) (rows : List LogRow) → AreInOrder 2 0 (numbered 2 (rows_of_cut plate count rows)) →
    log_of (records_of (cut_log count plate rows)) ≡ record { rows = numbered 2 (rows_of_cut plate count rows); refusal = None }
read_again plate some count rows h =
    let whole : List LogRow = rows_of_cut plate count rows in
    ap log_of (is_read_back plate some count rows ∙ ap (λ records. first_row ∷ records) (sym (fields_numbered 2 whole))) ∙ log_reads (numbered 2 whole) h
