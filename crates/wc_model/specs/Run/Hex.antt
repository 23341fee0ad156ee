-- Bytes and numbers in hexadecimal digits. (The form is the profile's own.)
use Rattle.std.specs.Prelude.{ℕ, ◌+◌, ◌*◌, ◌/◌, ◌%◌, ◌&&◌, List, [], ◌∷◌, Option, Some, None, if◌then◌else◌}
use Rattle.std.specs.Char.{digit_value, is_digit, digit_char}

-- the byte that two digits write, in either letter case
abbrev pub byte_of_digits : ℕ → ℕ → Option ℕ
byte_of_digits high low =
    if is_digit high 16 && is_digit low 16 then Some (16 * digit_value high + digit_value low) else None

-- a byte before more bytes, if both are there
abbrev pub with_byte : Option ℕ → Option (List ℕ) → Option (List ℕ)
with_byte None more = None
with_byte (Some byte) None = None
with_byte (Some byte) (Some bytes) = Some (byte ∷ bytes)

-- the bytes that pairs of digits write, in either letter case
abbrev pub bytes_of_hex : List ℕ → Option (List ℕ)
bytes_of_hex [] = Some []
bytes_of_hex (digit ∷ []) = None
bytes_of_hex (high ∷ low ∷ rest) = with_byte (byte_of_digits high low) (bytes_of_hex rest)

-- two digits for each byte, with small letters
abbrev pub hex_of_bytes : List ℕ → List ℕ
hex_of_bytes [] = []
hex_of_bytes (byte ∷ bytes) = digit_char (byte / 16) ∷ digit_char (byte % 16) ∷ hex_of_bytes bytes

-- four digits for a number of 16 bits
abbrev pub hex_of_word : ℕ → List ℕ
hex_of_word word = hex_of_bytes ((word / 256) ∷ (word % 256) ∷ [])
