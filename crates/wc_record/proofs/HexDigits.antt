-- The bytes that hexadecimal digits write, and what `hex` decodes.
use Rattle.std.proofs.lemmas.List.{append-nil}
use Rattle.wc_model.proofs.Common.{◌≡◌, ◌≤◌, ◌<◌, ◌+◌, ◌*◌, ◌%◌, ◌/◌, ◌==◌, ◌++◌, take, drop, ℕ, suc, Bool, true, false, cond, List, [], ◌∷◌, length, Option, Some, None, Result, Ok, Err, refl, sym, ap, ◌∙◌, arith, get_or, take-length, drop_of_length-le, digit_value, is_digit, nat_tests, number_from_digits}
use Rattle.std.specs.Prelude.{nat_le, MatchResult, option_map}
use Rattle.hex.specs.Hex.{hex_digit_value, pair_value, decode_pairs, decode_sized, ◌>>=◌}
use Rattle.hex.specs.declared.error.FromHexError.{FromHexError}
use Rattle.wc_model.specs.Definitions.{bytes_of_hex, byte_of_digits, with_byte, where_passes, line_chunk_of, inputs_word_of}

-- the value of an answer
abbrev pub ok_of : {A E : Type 0} → Result A E → Option A
ok_of (Ok value) = Some value
ok_of (Err e) = None

-- a digit's value, in both words
digit_same : (c : ℕ) → hex_digit_value c ≡ cond (is_digit c 16) (Some (digit_value c)) None
digit_same c = grind (arith, nat_tests)

-- the byte of two digits, in both words
pair_same : (high low i : ℕ) → ok_of (pair_value high low i) ≡ byte_of_digits high low
pair_same high low i = by_digits (is_digit high 16) (is_digit low 16) refl refl
  where
    by_digits : (h l : Bool) → is_digit high 16 ≡ h → is_digit low 16 ≡ l → ok_of (pair_value high low i) ≡ byte_of_digits high low
    by_digits true true e f = rw (digit_same high, digit_same low, e, f) (ap Some (omega arith))
    by_digits true false e f = rw (digit_same high, digit_same low, e, f) refl
    by_digits false l e f = rw (digit_same high, e) refl

-- a byte before what is decoded after it
joined_same : (byte : Result ℕ FromHexError) (bytes : Result (List ℕ) FromHexError) → ok_of (byte >>= (λ b. bytes >>= (λ bs. Ok (b ∷ bs)))) ≡ with_byte (ok_of byte) (ok_of bytes)
joined_same (Ok b) (Ok bs) = refl
joined_same (Ok b) (Err e) = refl
joined_same (Err e) (Ok bs) = refl
joined_same (Err e) (Err f) = refl

-- what pairs of digits write
pairs_same : (i : ℕ) (text : List ℕ) → ok_of (decode_pairs i text) ≡ bytes_of_hex text
unfolding decode_pairs
pairs_same i [] = refl
pairs_same i (digit ∷ []) = refl
pairs_same i (high ∷ low ∷ rest) =
    joined_same (pair_value high low i) (decode_pairs (i + 2) rest) ∙ ap (λ b. with_byte b (ok_of (decode_pairs (i + 2) rest))) (pair_same high low i) ∙ ap (with_byte (byte_of_digits high low)) (pairs_same (i + 2) rest)

-- two digits of odd length write nothing
odd_writes_nothing : (text : List ℕ) → length text % 2 ≡ 1 → bytes_of_hex text ≡ None
odd_writes_nothing [] e = absurd (omega arith)
odd_writes_nothing (digit ∷ []) e = refl
odd_writes_nothing (high ∷ low ∷ rest) e = let less : length rest % 2 ≡ 1 = omega arith in rw (odd_writes_nothing rest less) (with_none (byte_of_digits high low))
  where
    with_none : (byte : Option ℕ) → with_byte byte None ≡ None
    with_none None = refl
    with_none (Some byte) = refl

-- two digits for each byte
halves : (text bytes : List ℕ) → bytes_of_hex text ≡ Some bytes → 2 * length bytes ≡ length text
halves [] bytes e = let same : [] ≡ bytes = cc in rw (← same) refl
halves (digit ∷ []) bytes e = cc
halves (high ∷ low ∷ rest) bytes e = by_parts (byte_of_digits high low) (bytes_of_hex rest) (λ tail. halves rest tail) e
  where
    by_parts : (byte : Option ℕ) (more : Option (List ℕ)) → ((tail : List ℕ) → more ≡ Some tail → 2 * length tail ≡ length rest) → with_byte byte more ≡ Some bytes → 2 * length bytes ≡ suc (suc (length rest))
    by_parts None more m f = cc
    by_parts (Some byte) None m f = cc
    by_parts (Some byte) (Some tail) m f =
        let same : byte ∷ tail ≡ bytes = cc in
        let size = m tail refl in
        rw (← same) (omega arith)

-- what decoding into a buffer of its size gives
buffer_same : (text : List ℕ) → ok_of (decode_sized text (length text / 2)) ≡ bytes_of_hex text
buffer_same text = by_length (length text % 2 == 1) refl
  where
    by_length : (odd : Bool) → (length text % 2 == 1) ≡ odd → ok_of (decode_sized text (length text / 2)) ≡ bytes_of_hex text
    by_length true e = let odd : length text % 2 ≡ 1 = grind (arith, nat_tests) in rw (e) (sym (odd_writes_nothing text odd))
    by_length false e =
        let same : (length text / 2 == length text / 2) ≡ true = grind (arith, nat_tests) in
        rw (e, same) (pairs_same 0 text)

-- a longer text is not a chunk
pub chunk_too_long : (text : List ℕ) → 8192 < length text → None ≡ line_chunk_of text
chunk_too_long text long = by_bytes (bytes_of_hex text) refl
  where
    by_bytes : (bytes : Option (List ℕ)) → bytes_of_hex text ≡ bytes → None ≡ where_passes (λ bytes. nat_le (length bytes) 4096) bytes
    by_bytes None e = refl
    by_bytes (Some bytes) e =
        let size = halves text bytes e in
        let many : nat_le (length bytes) 4096 ≡ false = grind (arith, nat_tests) in
        rw many refl

-- the bytes of a text of another length than two are not a word
other_length : (text : List ℕ) → (length text / 2 == 2) ≡ false → (more : Option (List ℕ)) → bytes_of_hex text ≡ more → None ≡ where_passes (λ bytes. length bytes == 2) more
other_length text e None m = refl
other_length text e (Some bytes) m =
    let size = halves text bytes m in
    let other : (length bytes == 2) ≡ false = grind (arith, nat_tests) in
    rw other refl

-- four digits that are decoded are two bytes
two_bytes : (text : List ℕ) → length text % 2 ≡ 0 → (length text / 2 == 2) ≡ true → (more : Option (List ℕ)) → bytes_of_hex text ≡ more → more ≡ where_passes (λ bytes. length bytes == 2) more
two_bytes text even e None m = refl
two_bytes text even e (Some bytes) m =
    let size = halves text bytes m in
    let two : (length bytes == 2) ≡ true = grind (arith, nat_tests) in
    rw two refl

-- what decoding into two bytes gives
sized_same : (text : List ℕ) → ok_of (decode_sized text 2) ≡ where_passes (λ bytes. length bytes == 2) (bytes_of_hex text)
sized_same text = by_length (length text % 2 == 1) (length text / 2 == 2) refl refl
  where
    by_length : (odd two : Bool) → (length text % 2 == 1) ≡ odd → (length text / 2 == 2) ≡ two → ok_of (decode_sized text 2) ≡ where_passes (λ bytes. length bytes == 2) (bytes_of_hex text)
    by_length true two e f = let odd : length text % 2 ≡ 1 = grind (arith, nat_tests) in rw (e, odd_writes_nothing text odd) refl
    by_length false true e f =
        let even : length text % 2 ≡ 0 = grind (arith, nat_tests) in
        rw (e, f) (pairs_same 0 text ∙ two_bytes text even f (bytes_of_hex text) refl)
    by_length false false e f = rw (e, f) (other_length text f (bytes_of_hex text) refl)

-- what is written at a success
written : (d : Result (List ℕ) FromHexError) (r : Result Unit FromHexError) (out : List ℕ) → MatchResult d (λ bytes. (r ≡ Ok tt) × (out ≡ bytes)) (λ e. r ≡ Err e) → (u : Unit) → r ≡ Ok u → ok_of d ≡ Some out
written (Ok bytes) r out h u e = ap Some (sym h.1)
written (Err f) r out h u e = cc

-- what is refused
refused : (d : Result (List ℕ) FromHexError) (r : Result Unit FromHexError) (out : List ℕ) → MatchResult d (λ bytes. (r ≡ Ok tt) × (out ≡ bytes)) (λ e. r ≡ Err e) → (f : FromHexError) → r ≡ Err f → ok_of d ≡ None
refused (Ok bytes) r out h f e = cc
refused (Err g) r out h f e = refl

-- the number of two bytes
word_of_two : (out : List ℕ) → length out ≡ 2 → get_or out 0 0 * 256 + get_or out 1 0 ≡ number_from_digits 256 out
word_of_two [] e = omega arith
word_of_two (a ∷ []) e = omega arith
word_of_two (a ∷ b ∷ []) e = omega arith
word_of_two (a ∷ b ∷ c ∷ more) e = omega arith

-- what passes a test
passed : (test : List ℕ → Bool) (o : Option (List ℕ)) (v : List ℕ) → where_passes test o ≡ Some v → test v ≡ true
passed test None v e = cc
passed test (Some w) v e = by_test (test w) refl e
  where
    by_test : (b : Bool) → test w ≡ b → cond b (Some w) None ≡ Some v → test v ≡ true
    by_test true f g = let same : w ≡ v = cc in rw (← same) f
    by_test false f g = cc

-- two bytes that were decoded are the inputs
pub word_read : (text out : List ℕ) (r : Result Unit FromHexError) (word : ℕ) → MatchResult (decode_sized text 2) (λ bytes. (r ≡ Ok tt) × (out ≡ bytes)) (λ e. r ≡ Err e) → (u : Unit) → r ≡ Ok u → word ≡ get_or out 0 0 * 256 + get_or out 1 0 → Some word ≡ inputs_word_of text
word_read text out r word h u e is =
    let read = sym (sized_same text) ∙ written (decode_sized text 2) r out h u e in
    let two = passed (λ bytes. length bytes == 2) (bytes_of_hex text) out read in
    let size : length out ≡ 2 = grind (arith, nat_tests) in
    ap Some (is ∙ word_of_two out size) ∙ sym (ap (option_map (number_from_digits 256)) read)

-- what is not decoded is not a word
pub word_refused : (text out : List ℕ) (r : Result Unit FromHexError) → MatchResult (decode_sized text 2) (λ bytes. (r ≡ Ok tt) × (out ≡ bytes)) (λ e. r ≡ Err e) → (f : FromHexError) → r ≡ Err f → None ≡ inputs_word_of text
word_refused text out r h f e =
    let read = sym (sized_same text) ∙ refused (decode_sized text 2) r out h f e in
    sym (ap (option_map (number_from_digits 256)) read)

-- what decoding answers
abbrev Decodes : Result (List ℕ) FromHexError → Result Unit FromHexError → List ℕ → Type 0
Decodes decoded r out = MatchResult decoded (λ bytes. (r ≡ Ok tt) × (out ≡ bytes)) (λ e. r ≡ Err e)

-- what was decoded into a buffer of its size
read_whole : (text out : List ℕ) (size : ℕ) (r : Result Unit FromHexError) → size ≡ length text / 2 → Decodes (decode_sized text size) r out → (u : Unit) → r ≡ Ok u → bytes_of_hex text ≡ Some out
read_whole text out size r is h u e = sym (buffer_same text) ∙ ap (λ n. ok_of (decode_sized text n)) (sym is) ∙ written (decode_sized text size) r out h u e

-- bytes that were decoded are a chunk if they are few
pub chunk_read : (text out : List ℕ) (size : ℕ) (r : Result Unit FromHexError) → length text ≤ 8192 → size ≡ length text / 2 → Decodes (decode_sized text size) r out → (u : Unit) → r ≡ Ok u → Some out ≡ line_chunk_of text
chunk_read text out size r few is h u e =
    let read = read_whole text out size r is h u e in
    let half = halves text out read in
    let short : nat_le (length out) 4096 ≡ true = grind (arith, nat_tests) in
    rw (read, short) refl

-- they are few
pub chunk_few : (text out : List ℕ) (size : ℕ) (r : Result Unit FromHexError) → length text ≤ 8192 → size ≡ length text / 2 → Decodes (decode_sized text size) r out → (u : Unit) → r ≡ Ok u → length out ≤ 4096
chunk_few text out size r few is h u e = omega (arith, halves text out (read_whole text out size r is h u e))

-- what is not decoded is not a chunk
pub chunk_not_read : (text out : List ℕ) (size : ℕ) (r : Result Unit FromHexError) → size ≡ length text / 2 → Decodes (decode_sized text size) r out → (f : FromHexError) → r ≡ Err f → None ≡ line_chunk_of text
chunk_not_read text out size r is h f e =
    let read : bytes_of_hex text ≡ None = sym (buffer_same text) ∙ ap (λ n. ok_of (decode_sized text n)) (sym is) ∙ refused (decode_sized text size) r out h f e in
    rw read refl

-- a buffer that is written whole holds what was written
pub whole_buffer : (buffer out : List ℕ) (size : ℕ) → length out ≡ length buffer → size ≡ length buffer → take size (out ++ drop (length out) buffer) ≡ out
whole_buffer buffer out size filled is =
    let following : drop (length out) buffer ≡ [] = drop_of_length-le buffer (omega (arith, filled)) in
    let long : size ≡ length out = omega (arith, filled, is) in
    rw (following, append-nil out, long) (take-length out)
