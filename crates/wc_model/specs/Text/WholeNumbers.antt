-- Whole-number literals (IEC 61131-3:2003, 2.2.1). That a based number has no sign is the profile's own.
use Rattle.std.specs.Prelude.{ℕ, ◌^◌, Bool, List, [], ◌∷◌, ℤ, pos, negsuc, neg_ℤ, Option, Some, None, option_map, option_and_then, if◌then◌else◌, codes, bytes_eq}
use Rattle.std.specs.Bool.{nat_lt, then_some}
use Rattle.std.specs.List.{list_any, before_first, after_first}
use Rattle.wc_model.specs.Text.Characters.{is_hash, is_minus, is_plus}
use Rattle.wc_model.specs.Text.Digits.{digits_of}

-- the number has 32 bits
abbrev pub fits_32_bits : ℤ → Bool
fits_32_bits (pos n) = nat_lt n (2 ^ 31)
fits_32_bits (negsuc n) = nat_lt n (2 ^ 31)

-- the number if it has 32 bits
abbrev pub within_32_bits : ℤ → Option ℤ
within_32_bits n = then_some (fits_32_bits n) n

-- the base that precedes a `#`
abbrev pub base_of : List ℕ → Option ℕ
base_of text =
    if bytes_eq text (codes "2") then Some 2
    else (if bytes_eq text (codes "8") then Some 8
    else (if bytes_eq text (codes "16") then Some 16 else None))

-- the value of a number without a sign: decimal digits, or a base, a `#` and digits of that base
abbrev pub unsigned_of : List ℕ → Option ℕ
unsigned_of text =
    if list_any is_hash text
    then option_and_then (λ base. digits_of base (after_first is_hash text)) (base_of (before_first is_hash text))
    else digits_of 10 text

-- the value of a number; after a sign only decimal digits follow
abbrev pub written_value : List ℕ → Option ℤ
written_value [] = None
written_value (first ∷ rest) =
    if is_minus first then option_map (λ n. neg_ℤ (pos n)) (digits_of 10 rest)
    else (if is_plus first then option_map pos (digits_of 10 rest)
    else option_map pos (unsigned_of (first ∷ rest)))

-- the value of a whole-number literal, which has 32 bits
abbrev pub whole_number_of : List ℕ → Option ℤ
whole_number_of text = option_and_then within_32_bits (written_value text)
