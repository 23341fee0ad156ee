-- What is written of a log that is cut is read back.
use Rattle.std.proofs.Common.{nat_lt, lit<, ◌≡◌, ℕ, zero, suc, ◌+◌, ◌/◌, ◌%◌, ◌==◌, ◌<◌, ◌≤◌, Bool, true, false, ◌||◌, if◌then◌else◌, List, [], ◌∷◌, ◌++◌, length, map, refl, ap, sym, ◌∙◌, arith, append_assoc, length-append}
use Rattle.csv.proofs.RoundTrip.{read-write-many}
use Rattle.csv.specs.Machine.{next_record}
use Rattle.csv.specs.Reading.{default_config, records, records_from, records_next, strip_bom}
use Rattle.csv.specs.Writing as written
use Rattle.csv.specs.Writing.{default_writer, fields_text, is_blank, needs_byte}
use Rattle.csv.specs.declared.parser.State.TheVariants as st
use Rattle.wc_model.proofs.Common.{ne_eqb, digit_char, list_any}
use Rattle.std.specs.Fmt.{digits, digits_onto, digit_glyph, signed_decimal}
use Rattle.std.specs.Prelude.{Some, codes, decimal, ℤ, pos, negsuc}
use Rattle.wc_cut.proofs.CutAgain.{goes_on_from_the_cut}
use Rattle.wc_cut.specs.{rows_of_cut, IsReadBack, data_fields, row_fields, data_text, heading_text, line_of, row_text, rows_text}
use Rattle.wc_model.specs.Definitions.{PlateData, hex_of_bytes, hex_of_word, first_row, RowData, Counts, Bytes, Inputs, Scan, Change, LogRow}
use Rattle.wc_record.specs.Reading.{records_of}

-- each byte is above a comma
abbrev AreAbove : List ℕ → Type 0
AreAbove [] = Unit {0}
AreAbove (byte ∷ bytes) = (44 < byte) × AreAbove bytes

-- so none calls for quotes
not_equal : (byte mark : ℕ) → mark < byte → (byte == mark) ≡ false
not_equal byte mark h = ne_eqb byte mark (λ e. omega (arith, h, e))

needs_none : (byte : ℕ) → 44 < byte → needs_byte default_writer byte ≡ false
needs_none byte h = λ i.
    not_equal byte 44 h i || not_equal byte 34 (omega (arith, h)) i || (not_equal byte 13 (omega (arith, h)) i || not_equal byte 10 (omega (arith, h)) i) || false || false

plain : (field : List ℕ) → AreAbove field → list_any (needs_byte default_writer) field ≡ false
plain [] h = refl
plain (byte ∷ field) h = λ i. needs_none byte h.0 i || plain field h.1 i

-- and a field of such bytes is written as it is
field_is : (field : List ℕ) → AreAbove field → written.field_text default_writer field ≡ field
field_is field h = ap (λ b. if b then written.quoted default_writer field else field) (plain field h)

-- either of two
either : (b : Bool) (xs ys : List ℕ) → AreAbove xs → AreAbove ys → AreAbove (if b then xs else ys)
either true xs ys h k = h
either false xs ys h k = k

-- digits
glyph_chosen : (small upper : Bool) (d : ℕ) → 44 < (if small then 48 + d else (if upper then 55 + d else 87 + d))
glyph_chosen true upper d = omega arith
glyph_chosen false true d = omega arith
glyph_chosen false false d = omega arith

glyph_above : (upper : Bool) (d : ℕ) → 44 < digit_glyph upper d
glyph_above upper d = glyph_chosen (nat_lt d 10) upper d

digit_chosen : (small : Bool) (d : ℕ) → 44 < (if small then 48 + d else 87 + d)
digit_chosen true d = omega arith
digit_chosen false d = omega arith

digit_above : (d : ℕ) → 44 < digit_char d
digit_above d = digit_chosen (nat_lt d 10) d

digits_above : (k base : ℕ) (upper : Bool) (n : ℕ) (acc : List ℕ) → AreAbove acc → AreAbove (digits_onto k base upper n acc)
digits_above zero base upper n acc h = h
digits_above (suc k) base upper n acc h =
    let more : AreAbove (digit_glyph upper (n % base) ∷ acc) = (glyph_above upper (n % base), h) in
    either (n / base == 0) (digit_glyph upper (n % base) ∷ acc) (digits_onto k base upper (n / base) (digit_glyph upper (n % base) ∷ acc)) more
    (digits_above k base upper (n / base) (digit_glyph upper (n % base) ∷ acc) more)

decimal_above : (n : ℕ) → AreAbove (decimal n)
unfolding digits
decimal_above n = digits_above 64 10 false n [] tt

signed_above : (z : ℤ) → AreAbove (signed_decimal z)
signed_above (pos n) = decimal_above n
signed_above (negsuc n) = (lit< tt, decimal_above (suc n))

hex_above : (bytes : List ℕ) → AreAbove (hex_of_bytes bytes)
hex_above [] = tt
hex_above (byte ∷ bytes) = (digit_above (byte / 16), (digit_above (byte % 16), hex_above bytes))

-- a record of three such fields
three : (a b c : List ℕ) → AreAbove a → AreAbove b → AreAbove c →
    written.row_text default_writer (a ∷ b ∷ c ∷ []) ≡ a ++ codes "," ++ b ++ codes "," ++ c ++ (10 ∷ [])
unfolding fields_text is_blank
three a b c ha hb hc =
    (λ i. (field_is a ha i ++ (44 ∷ (field_is b hb i ++ (44 ∷ (field_is c hc i ++ []))))) ++ (10 ∷ []))
    ∙ search (append_assoc)

-- the text of a row is that of its record
line_is : (ms : ℕ) (brings : RowData) → line_of ms brings ≡ written.row_text default_writer (decimal ms ∷ data_fields brings)
line_is ms (Counts counts) = search (append_assoc) ∙ sym (three (decimal ms) (codes "C") (signed_decimal counts) (decimal_above ms) (lit< tt, tt) (signed_above counts))
line_is ms (Bytes bytes) = search (append_assoc) ∙ sym (three (decimal ms) (codes "L") (hex_of_bytes bytes) (decimal_above ms) (lit< tt, tt) (hex_above bytes))
line_is ms (Inputs inputs) = search (append_assoc) ∙ sym (three (decimal ms) (codes "I") (hex_of_word inputs) (decimal_above ms) (lit< tt, tt) (hex_above ((inputs / 256) ∷ (inputs % 256) ∷ [])))
line_is ms Scan = search (append_assoc) ∙ sym (three (decimal ms) (codes "S") [] (decimal_above ms) (lit< tt, tt) tt)
line_is ms Change = search (append_assoc) ∙ sym (three (decimal ms) (codes "P") [] (decimal_above ms) (lit< tt, tt) tt)

heading_is : heading_text ≡ written.row_text default_writer first_row
heading_is = sym (three (codes "ms") (codes "kind") (codes "data") (lit< tt, (lit< tt, tt)) (lit< tt, (lit< tt, (lit< tt, (lit< tt, tt)))) (lit< tt, (lit< tt, (lit< tt, (lit< tt, tt)))))

-- a row is read
row_read : (ms : ℕ) (brings : RowData) (tail : List ℕ) →
    next_record default_config st.StartRecord [] [] (written.row_text default_writer (decimal ms ∷ data_fields brings) ++ tail) ≡ Some (decimal ms ∷ data_fields brings, st.StartRecord, tail)
row_read ms (Counts counts) tail = read-write-many (decimal ms) (codes "C") (signed_decimal counts ∷ []) tail
row_read ms (Bytes bytes) tail = read-write-many (decimal ms) (codes "L") (hex_of_bytes bytes ∷ []) tail
row_read ms (Inputs inputs) tail = read-write-many (decimal ms) (codes "I") (hex_of_word inputs ∷ []) tail
row_read ms Scan tail = read-write-many (decimal ms) (codes "S") ([] ∷ []) tail
row_read ms Change tail = read-write-many (decimal ms) (codes "P") ([] ∷ []) tail

-- so are all rows
rows_read : (n : ℕ) (rows : List LogRow) → length rows ≤ n → records_from default_config n st.StartRecord (rows_text rows) ≡ map row_fields rows
unfolding records_from next_record
rows_read zero [] few = refl
rows_read zero (row ∷ rows) few = absurd (omega (arith, few))
rows_read (suc n) [] few = refl
rows_read (suc n) (row ∷ rows) few =
    ap (λ text. records_next (records_from default_config n) (next_record default_config st.StartRecord [] [] (text ++ rows_text rows))) (line_is row.ms row.brings)
    ∙ ap (records_next (records_from default_config n)) (row_read row.ms row.brings (rows_text rows))
    ∙ ap (λ records. row_fields row ∷ records) (rows_read n rows (omega (arith, few)))

-- each row has a byte
as_long : (rows : List LogRow) → length rows ≤ length (rows_text rows)
as_long [] = omega arith
as_long (row ∷ rows) =
    omega (
      arith,
      length-append (row_text row) (rows_text rows),
      length-append (decimal row.ms ++ data_text row.brings) (10 ∷ []),
      as_long rows,
    )

-- the heading, and the rows after it
log_read : (rows : List LogRow) (n : ℕ) → length rows ≤ n → records_from default_config (suc n) st.StartRecord (heading_text ++ rows_text rows) ≡ first_row ∷ map row_fields rows
unfolding records_from
log_read rows n few =
    ap (λ text. records_next (records_from default_config n) (next_record default_config st.StartRecord [] [] (text ++ rows_text rows))) heading_is
    ∙ ap (records_next (records_from default_config n)) (read-write-many (codes "ms") (codes "kind") (codes "data" ∷ []) (rows_text rows))
    ∙ ap (λ records. first_row ∷ records) (rows_read n rows few)

-- no byte order mark
no_mark : (text : List ℕ) → strip_bom (heading_text ++ text) ≡ heading_text ++ text
unfolding strip_bom
no_mark text = refl

all_read : (rows : List LogRow) → records_of (heading_text ++ rows_text rows) ≡ first_row ∷ map row_fields rows
all_read rows =
    let text : List ℕ = heading_text ++ rows_text rows in
    let more : suc (length text) ≡ length text + 1 = omega arith in
    let few : length rows ≤ length text = omega (arith, length-append heading_text (rows_text rows), as_long rows) in
    ap (records default_config) (no_mark (rows_text rows))
    ∙ sym (ap (λ n. records_from default_config n st.StartRecord text) more)
    ∙ log_read rows (length text) few

pub is_read_back : (plate : PlateData) → 0 < plate.window → (count : ℕ) (rows : List LogRow) → IsReadBack plate count rows
is_read_back plate some count rows =
    ap records_of (goes_on_from_the_cut plate some count rows).text ∙ all_read (rows_of_cut plate count rows)
