-- No byte of a report's line is a line feed, but its last.
use Rattle.std.proofs.Common.{nat_lt, lit<, ◌≡◌, ℕ, zero, suc, ◌+◌, ◌/◌, ◌%◌, ◌==◌, ◌<◌, Bool, true, false, if◌then◌else◌, List, [], ◌∷◌, ◌++◌, refl, arith}
use Rattle.std.specs.Prelude.{codes, decimal, ℤ, pos, negsuc}
use Rattle.std.specs.Char.{digit_char}
use Rattle.std.specs.Fmt.{digits, digits_onto, digit_glyph, signed_decimal}
use Rattle.wc_model.specs.Definitions.{hex_of_bytes, hex_of_word, ReportLine, ScanLine, AnswerLine, line_text, spaced_numbers}

-- each byte is above a line feed
abbrev pub AreAboveLineFeed : List ℕ → Type 0
AreAboveLineFeed [] = Unit {0}
AreAboveLineFeed (byte ∷ bytes) = (10 < byte) × AreAboveLineFeed bytes

-- so are those of two texts joined
joined : (xs ys : List ℕ) → AreAboveLineFeed xs → AreAboveLineFeed ys → AreAboveLineFeed (xs ++ ys)
joined [] ys h k = k
joined (x ∷ xs) ys h k = (h.0, joined xs ys h.1 k)

-- and of either of two
either : (b : Bool) (xs ys : List ℕ) → AreAboveLineFeed xs → AreAboveLineFeed ys → AreAboveLineFeed (if b then xs else ys)
either true xs ys h k = h
either false xs ys h k = k

-- a digit is above a line feed
glyph_chosen : (small upper : Bool) (d : ℕ) → 10 < (if small then 48 + d else (if upper then 55 + d else 87 + d))
glyph_chosen true upper d = omega arith
glyph_chosen false true d = omega arith
glyph_chosen false false d = omega arith

glyph_above : (upper : Bool) (d : ℕ) → 10 < digit_glyph upper d
glyph_above upper d = glyph_chosen (nat_lt d 10) upper d

digit_chosen : (small : Bool) (d : ℕ) → 10 < (if small then 48 + d else 87 + d)
digit_chosen true d = omega arith
digit_chosen false d = omega arith

digit_above : (d : ℕ) → 10 < digit_char d
digit_above d = digit_chosen (nat_lt d 10) d

-- so are the digits of a number
digits_above : (k base : ℕ) (upper : Bool) (n : ℕ) (acc : List ℕ) → AreAboveLineFeed acc → AreAboveLineFeed (digits_onto k base upper n acc)
digits_above zero base upper n acc h = h
digits_above (suc k) base upper n acc h =
    let more : AreAboveLineFeed (digit_glyph upper (n % base) ∷ acc) = (glyph_above upper (n % base), h) in
    either (n / base == 0) (digit_glyph upper (n % base) ∷ acc) (digits_onto k base upper (n / base) (digit_glyph upper (n % base) ∷ acc)) more
    (digits_above k base upper (n / base) (digit_glyph upper (n % base) ∷ acc) more)

decimal_above : (n : ℕ) → AreAboveLineFeed (decimal n)
unfolding digits
decimal_above n = digits_above 64 10 false n [] tt

signed_above : (z : ℤ) → AreAboveLineFeed (signed_decimal z)
signed_above (pos n) = decimal_above n
signed_above (negsuc n) = (lit< tt, decimal_above (suc n))

spaced_above : (zs : List ℤ) → AreAboveLineFeed (spaced_numbers zs)
spaced_above [] = tt
spaced_above (z ∷ zs) = joined (codes " " ++ signed_decimal z) (spaced_numbers zs) (lit< tt, signed_above z) (spaced_above zs)

hex_above : (bytes : List ℕ) → AreAboveLineFeed (hex_of_bytes bytes)
hex_above [] = tt
hex_above (byte ∷ bytes) = (digit_above (byte / 16), (digit_above (byte % 16), hex_above bytes))

-- a line without its line feed
abbrev pub body_of : ReportLine → List ℕ
body_of (ScanLine ms steps outputs) =
    codes "S " ++ decimal ms ++ codes " " ++ decimal steps ++ codes " " ++ hex_of_word outputs.bits ++ spaced_numbers outputs.words
body_of (AnswerLine ms bytes) = codes "L " ++ decimal ms ++ codes " " ++ hex_of_bytes bytes

pub line_is : (line : ReportLine) → line_text line ≡ body_of line ++ (10 ∷ [])
line_is (ScanLine ms steps outputs) = refl
line_is (AnswerLine ms bytes) = refl

-- no line feed is in it
pub body_above : (line : ReportLine) → AreAboveLineFeed (body_of line)
body_above (ScanLine ms steps outputs) =
    let word : AreAboveLineFeed (hex_of_word outputs.bits) = hex_above ((outputs.bits / 256) ∷ (outputs.bits % 256) ∷ []) in
    let space : AreAboveLineFeed (codes " ") = (lit< tt, tt) in
    let moment : AreAboveLineFeed (codes "S " ++ decimal ms) = (lit< tt, (lit< tt, decimal_above ms)) in
    let steps_too = joined (codes "S " ++ decimal ms ++ codes " ") (decimal steps) (joined (codes "S " ++ decimal ms) (codes " ") moment space) (decimal_above steps) in
    let bits_too = joined (codes "S " ++ decimal ms ++ codes " " ++ decimal steps ++ codes " ") (hex_of_word outputs.bits) (joined (codes "S " ++ decimal ms ++ codes " " ++ decimal steps) (codes " ") steps_too space) word in
    joined (codes "S " ++ decimal ms ++ codes " " ++ decimal steps ++ codes " " ++ hex_of_word outputs.bits) (spaced_numbers outputs.words) bits_too (spaced_above outputs.words)
body_above (AnswerLine ms bytes) =
    let moment : AreAboveLineFeed (codes "L " ++ decimal ms) = (lit< tt, (lit< tt, decimal_above ms)) in
    joined (codes "L " ++ decimal ms ++ codes " ") (hex_of_bytes bytes) (joined (codes "L " ++ decimal ms) (codes " ") moment (lit< tt, tt)) (hex_above bytes)
