-- Which bytes the fields of a line have.
use Rattle.std.proofs.Common.{◌≡◌, ◌<◌, ◌≤◌, ◌+◌, ◌/◌, ◌%◌, ◌^◌, ℕ, zero, suc, ℤ, pos, negsuc, true, false, cond, nat_lt, rules, List, [], ◌∷◌, ◌++◌, length, Result, Ok, Err, refl, sym, ap, subst, ◌∙◌, arith}
use Rattle.hex.proofs.HexLemmas.{decode_sized-encode_lower}
use Rattle.hex.specs.Hex.{IsBytes, decode_sized}
use Rattle.wc_model.proofs.Common.{decimal, nat_tests, decimal_is_IsNumeral, digit_from_value, digit_char, signed_decimal, from_be_bytes, prefix_len, AllDigits}
use Rattle.std.specs.Result.{MatchResult, result_unwrap_or}
use Rattle.wc_diag_texts.specs.Numbers.{is_refusal}
use Rattle.wc_view_decode.specs.Lines.{AreFieldBytes}
use Rattle.wc_model.specs.Run.Hex.{hex_of_bytes, hex_of_word}
use Rattle.wc_report.proofs.Digits.{digits_same}
use lib.Signed.{mag}
use mir.Syntax.{w16}

-- whether a number is below another
lt_true : (a b : ℕ) → a < b → nat_lt a b ≡ true
lt_true a b h = search rules

lt_false : (a b : ℕ) → b ≤ a → nat_lt a b ≡ false
lt_false a b h = search rules

-- a field is cut at its end
pub field_in_prefix : (bytes more : List ℕ) (end : ℕ) → AreFieldBytes bytes → end ≤ 32 → prefix_len (λ byte. nat_lt 32 byte) (bytes ++ end ∷ more) ≡ length bytes
field_in_prefix [] more end are ends = rw (lt_false 32 end ends) refl
field_in_prefix (byte ∷ bytes) more end (above, are) ends =
    rw (lt_true 32 byte above) (omega (arith, field_in_prefix bytes more end are ends))

-- the number of a refusal is small
pub known_below : (number : ℕ) → is_refusal number ≡ true → number < 703
known_below number known = grind (arith, nat_tests)

-- digits are bytes of a field
digits_are_field : (ds : List ℕ) → AllDigits 10 ds → AreFieldBytes ds
digits_are_field [] d = tt
digits_are_field (c ∷ cs) d = (omega (arith, digit_from_value c d.0), digits_are_field cs d.1)

pub decimal_is_field : (n : ℕ) → n < 2 ^ 64 → AreFieldBytes (decimal n)
decimal_is_field n below = digits_are_field (decimal n) (decimal_is_IsNumeral n below).0.1

pub signed_is_field : (z : ℤ) → mag z < 2 ^ 63 → AreFieldBytes (signed_decimal z)
signed_is_field (pos n) below = decimal_is_field n (omega (arith, below))
signed_is_field (negsuc n) below = (omega arith, decimal_is_field (suc n) (omega (arith, below)))

-- so are hexadecimal digits
hex_digit_is_field : (d : ℕ) → 32 < digit_char d
hex_digit_is_field d = elim (nat_lt d 10) as (λ b. 32 < cond b (48 + d) (87 + d)) [ true ↦ omega arith | false ↦ omega arith ]

pub hex_is_field : (bytes : List ℕ) → AreFieldBytes (hex_of_bytes bytes)
hex_is_field [] = tt
hex_is_field (byte ∷ bytes) = (hex_digit_is_field (byte / 16), (hex_digit_is_field (byte % 16), hex_is_field bytes))

-- a word's bytes are bytes
bytes_of_word : (word : ℕ) → word < 2 ^ 16 → IsBytes ((word / 256) ∷ (word % 256) ∷ [])
bytes_of_word word small zero = omega arith
bytes_of_word word small (suc zero) = omega arith
bytes_of_word word small (suc (suc i)) = omega arith

-- and its digits are read as these
pub word_decoded : (field : List ℕ) (word : ℕ) → word < 2 ^ 16 → field ≡ hex_of_word word → decode_sized field 2 ≡ Ok ((word / 256) ∷ (word % 256) ∷ [])
word_decoded field word small e =
    let bytes : List ℕ = (word / 256) ∷ (word % 256) ∷ [] in
    ap (λ text. decode_sized text 2) (e ∙ sym (digits_same bytes (bytes_of_word word small)))
    ∙ decode_sized-encode_lower bytes 2 refl (bytes_of_word word small)

-- what holds of all that is no fault holds of what is given, if there is no fault
pub given_of : {T E : Type 0} (P : T → Type 0) (Q : E → Type 0) (r : Result T E) (default given : T) → MatchResult r P Q → ((e : E) → Q e → ⊥)
    → given ≡ result_unwrap_or r default → P given
given_of P Q (Ok x) default given holds never e = subst P (sym e) holds
given_of P Q (Err fault) default given holds never e = absurd (never fault holds)

-- a number of 16 bits is that of its bytes
pub word_again : (word : ℕ) → from_be_bytes w16 ((word / 256) ∷ (word % 256) ∷ []) ≡ word
word_again word = omega arith
