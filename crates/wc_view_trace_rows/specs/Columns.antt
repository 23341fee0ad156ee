-- A line of a text as a terminal is sent it (the characters are those of Unicode in UTF-8), and the columns of a row: none of their
-- characters is one on which a terminal would act. (The profile's own.)
use Rattle.std.specs.Prelude.{ℕ, zero, suc, ◌-◌, ◌==◌, nat_lt, nat_le, Bool, not, ◌&&◌, ◌||◌, List, [], ◌∷◌, if◌then◌else◌, ◌+◌, ◌*◌, max, min, ◌++◌, length, replicate, Option, Some, None, codes, decimal, ◌≡◌, ⊤, false}
use Rattle.std.specs.Char.{is_ascii_whitespace}
use Rattle.std.specs.Str.{is_utf8}
use Rattle.std.specs.Option.{option_map_or}
use Rattle.wc_diag_texts.specs.Plain.{acting_length, continues, characters}

-- a control character of ASCII
abbrev pub is_control : ℕ → Bool
is_control byte = nat_lt byte 32 || byte == 127

-- a byte as it is shown: a tabulator as a space, a control character as `?`, and so a byte that is not ASCII in a text that is not
-- UTF-8
abbrev pub shown_byte : Bool → ℕ → ℕ
shown_byte is_text byte = if byte == 9 then 32 else (if is_control byte || nat_le 128 byte && not is_text then 63 else byte)

-- the byte that is shown of a character of n bytes on which a terminal would act, or of any other byte
abbrev pub shown_first : Bool → ℕ → ℕ → ℕ
shown_first is_text zero byte = shown_byte is_text byte
shown_first is_text (suc n) byte = 63

-- the bytes of a text as they are shown, of which the first n are those of a character that is shown already
abbrev pub shown_bytes : Bool → ℕ → List ℕ → List ℕ
shown_bytes is_text n [] = []
shown_bytes is_text (suc n) (byte ∷ bytes) = shown_bytes is_text n bytes
shown_bytes is_text zero (byte ∷ bytes) = shown_first is_text (acting_length (byte ∷ bytes)) byte ∷ shown_bytes is_text (acting_length (byte ∷ bytes) - 1) bytes

-- without a space that follows a space; this byte is before the first
abbrev pub single_spaces : ℕ → List ℕ → List ℕ
single_spaces before [] = []
single_spaces before (byte ∷ bytes) = if byte == 32 && before == 32 then single_spaces byte bytes else byte ∷ single_spaces byte bytes

-- a text without the white space at its ends
abbrev pub from_word : List ℕ → List ℕ
from_word [] = []
from_word (byte ∷ bytes) = if is_ascii_whitespace byte then from_word bytes else byte ∷ bytes

abbrev pub with_word : ℕ → List ℕ → List ℕ
with_word byte [] = if is_ascii_whitespace byte then [] else byte ∷ []
with_word byte (next ∷ bytes) = byte ∷ next ∷ bytes

abbrev pub up_to_word : List ℕ → List ℕ
up_to_word [] = []
up_to_word (byte ∷ bytes) = with_word byte (up_to_word bytes)

abbrev pub between_words : List ℕ → List ℕ
between_words bytes = up_to_word (from_word bytes)

-- a text as it is shown
abbrev pub shown : List ℕ → List ℕ
shown bytes = single_spaces 32 (shown_bytes (is_utf8 bytes) 0 bytes)

abbrev pub spaces : ℕ → List ℕ
spaces n = replicate n 32

-- the prefix of a text that takes n columns, one for each character, or all of it
abbrev pub first_columns : ℕ → List ℕ → List ℕ
first_columns n [] = []
first_columns zero (byte ∷ bytes) = if continues byte then byte ∷ first_columns zero bytes else []
first_columns (suc n) (byte ∷ bytes) = if continues byte then byte ∷ first_columns (suc n) bytes else byte ∷ first_columns n bytes

-- a text in that many columns: if it takes more, its prefix and two dots
abbrev pub fitted : ℕ → List ℕ → List ℕ
fitted columns bytes = if nat_le (characters bytes) columns then bytes else first_columns (columns - 2) bytes ++ codes ".."

-- a line of the program's text in that many columns
abbrev pub line_shown : ℕ → List ℕ → List ℕ
line_shown columns line = fitted columns (shown (between_words line))

-- the spaces after the start of a row up to a column, and two at least
abbrev pub gap : ℕ → List ℕ → List ℕ
gap column row = spaces (max (column - characters row) 2)

-- a number at the right of six columns
abbrev pub six_columns : ℕ → List ℕ
six_columns number = spaces (6 - length (decimal number)) ++ decimal number

-- two columns, and two for each of the first eight calls
abbrev pub indent : ℕ → ℕ
indent depth = 2 + 2 * min depth 8

-- the column at which the result of a row begins, and that of what it writes, counted from 0
abbrev pub result_column : ℕ
result_column = 44

abbrev pub written_column : ℕ
written_column = 58

-- the start of a row that an item has at that depth of calls: the number of its line and the line, up to two columns before the result;
-- or as many spaces, if the item is a part of a call
abbrev pub prefix : Option ℕ → ℕ → List ℕ → List ℕ
prefix None depth line = spaces (6 + indent depth)
prefix (Some number) depth line = six_columns number ++ (spaces (indent depth) ++ line_shown (result_column - (6 + indent depth + 2)) line)

-- what is at a column after the start of a row, or nothing
abbrev pub with_cell : ℕ → Option (List ℕ) → List ℕ → List ℕ
with_cell column cell row = option_map_or (λ text. row ++ (gap column row ++ text)) cell row

-- a row: its start, the result, and what is written
abbrev pub row : List ℕ → Option (List ℕ) → Option (List ℕ) → List ℕ
row first result written = with_cell written_column written (with_cell result_column result first) ++ 10 ∷ []

-- no byte of it is a control character, nor does one begin there on which a terminal would act
abbrev pub IsSafe : List ℕ → Type 0
IsSafe [] = ⊤
IsSafe (byte ∷ bytes) = (is_control byte ≡ false) × (acting_length (byte ∷ bytes) ≡ 0) × IsSafe bytes

-- so of each line, whatever bytes it has
abbrev pub ShownLinesAreSafe : Type 0
ShownLinesAreSafe = (columns : ℕ) (line : List ℕ) → IsSafe (line_shown columns line)
