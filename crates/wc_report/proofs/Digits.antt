-- How long numbers are in decimal digits, and that the digits that `hex` writes are those of the definitions, byte by byte.
use Rattle.std.proofs.Common.{◌<◌, ◌≤◌, ◌^◌, ℕ, length, arith, ◌≡◌, ◌+◌, ◌*◌, ◌/◌, ◌%◌, List, ◌∷◌, ◌++◌, take, drop, slice_index, slice_set, refl, ◌==◌, ◌&&◌, inl, inr, zero, suc, Bool, true, [], ap}
use Rattle.wc_model.proofs.Common.{decimal, length-decimal-le, digit_char, and_parts, cases_lt, eqb-true}
use Rattle.std.proofs.lemmas.List.{append_assoc, append-nil, drop_all, drop_more, take_all}
use Rattle.hex.proofs.Pairs.{take-two_writes}
use Rattle.wc_model.specs.Run.Hex.{hex_of_bytes}
use Rattle.hex.specs.Hex.{IsBytes, encode_lower, encode_with, lower_digits}

-- those of 64 bits have 20 digits at most
pub short_decimal : (n : ℕ) → n < 2 ^ 64 → length (decimal n) ≤ 20
short_decimal n below = length-decimal-le 20 n (omega arith) (omega arith) below

-- the digits of the bytes that are left, from one byte on
digits_left : (bytes : List ℕ) (i : ℕ) → i < length bytes
    → hex_of_bytes (drop i bytes)
    ≡ digit_char (slice_index bytes i / 16) ∷ digit_char (slice_index bytes i % 16) ∷ hex_of_bytes (drop (i + 1) bytes)
digits_left bytes i h = rw (drop_more bytes i 0 h) refl

-- the digits of one byte more are written
pub one_byte_more : (bytes digits : List ℕ) (i high low : ℕ) → i < length bytes → 2 * i + 1 < length digits
    → high ≡ digit_char (slice_index bytes i / 16) → low ≡ digit_char (slice_index bytes i % 16)
    → take (2 * i) digits ++ hex_of_bytes (drop i bytes) ≡ hex_of_bytes bytes
    → take (2 * (i + 1)) (slice_set (slice_set digits (2 * i) high) (2 * i + 1) low) ++ hex_of_bytes (drop (i + 1) bytes) ≡ hex_of_bytes bytes
one_byte_more bytes digits i high low h fits e_high e_low so_far =
    let two : 2 * (i + 1) ≡ 2 * i + 2 = omega arith in
    let written = take-two_writes digits (2 * i) high low fits in
    let left = digits_left bytes i h in
    rw (two, written, append_assoc, e_high, e_low) (rw left at so_far)

-- those of every byte are written
pub all_bytes : (bytes digits : List ℕ) (i : ℕ) → length bytes ≤ i → length digits ≡ 2 * length bytes
    → take (2 * i) digits ++ hex_of_bytes (drop i bytes) ≡ hex_of_bytes bytes
    → digits ≡ hex_of_bytes bytes
all_bytes bytes digits i over whole so_far =
    let none = drop_all i bytes over in
    let every = take_all (2 * i) digits (omega arith) in
    rw (none, every, append-nil) at so_far

-- whether the first n digits are the same, which computes
abbrev all_same : ℕ → Bool
all_same zero = true
all_same (suc n) = (slice_index lower_digits n == digit_char n) && all_same n

-- a digit among those that are the same
same_at : (n d : ℕ) → all_same n ≡ true → d < n → slice_index lower_digits d ≡ digit_char d
same_at zero d h below = absurd (omega arith)
same_at (suc n) d h below =
    let parts = and_parts (slice_index lower_digits n == digit_char n) (all_same n) h in
    elim (cases_lt d n) [
      | inl less ↦ same_at n d parts.1 less
      | inr top ↦
          let e : d ≡ n = omega arith in
          rw e (eqb-true (slice_index lower_digits n) (digit_char n) parts.0)
    ]

-- each of the sixteen digits
digit_same : (d : ℕ) → d < 16 → slice_index lower_digits d ≡ digit_char d
digit_same d below = same_at 16 d refl below

-- the digits of bytes
pub digits_same : (bytes : List ℕ) → IsBytes bytes → encode_lower bytes ≡ hex_of_bytes bytes
unfolding encode_with
digits_same [] fits = refl
digits_same (byte ∷ bytes) fits =
    let small : byte < 256 = fits 0 in
    let high : byte / 16 < 16 = omega arith in
    let low : byte % 16 < 16 = omega arith in
    rw (digit_same (byte / 16) high, digit_same (byte % 16) low) (ap (λ more. digit_char (byte / 16) ∷ digit_char (byte % 16) ∷ more) (digits_same bytes (λ i. fits (suc i))))
