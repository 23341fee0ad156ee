-- The characters of a program text, as bytes (IEC 61131-3:2003, 2.1.1). Which of them a text may hold is the profile's own.
use Rattle.std.specs.Prelude.{ℕ, Bool, true, false, ◌||◌, ◌==◌, List, [], ◌∷◌}
use Rattle.std.specs.Char.{is_ascii_alphabetic, is_ascii_alphanumeric}
use Rattle.std.specs.Str.{byte}

-- the first byte of the text passes
abbrev pub begins : (ℕ → Bool) → List ℕ → Bool
begins test [] = false
begins test (first ∷ rest) = test first

-- the text has no bytes
abbrev pub is_empty : List ℕ → Bool
is_empty [] = true
is_empty (first ∷ rest) = false

-- `_`
abbrev pub is_underscore : ℕ → Bool
is_underscore b = b == byte "_"

-- `#`
abbrev pub is_hash : ℕ → Bool
is_hash b = b == byte "#"

-- `.`
abbrev pub is_point : ℕ → Bool
is_point b = b == byte "."

-- `-`
abbrev pub is_minus : ℕ → Bool
is_minus b = b == byte "-"

-- `+`
abbrev pub is_plus : ℕ → Bool
is_plus b = b == byte "+"

-- `%`
abbrev pub is_percent : ℕ → Bool
is_percent b = b == byte "%"

-- `*`
abbrev pub is_star : ℕ → Bool
is_star b = b == byte "*"

-- a line feed
abbrev pub is_line_feed : ℕ → Bool
is_line_feed b = b == 10

-- a sign of a number
abbrev pub is_sign : ℕ → Bool
is_sign b = is_plus b || is_minus b

-- an identifier starts with a letter or an underscore
abbrev pub starts_identifier : ℕ → Bool
starts_identifier b = is_ascii_alphabetic b || is_underscore b

-- an identifier goes on with letters, digits and underscores
abbrev pub is_identifier_character : ℕ → Bool
is_identifier_character b = is_ascii_alphanumeric b || is_underscore b

-- a number goes on with letters, digits, underscores, `#` and points
abbrev pub is_number_character : ℕ → Bool
is_number_character b = is_identifier_character b || is_hash b || is_point b

-- an address goes on with letters, digits and points
abbrev pub is_address_character : ℕ → Bool
is_address_character b = is_ascii_alphanumeric b || is_point b
