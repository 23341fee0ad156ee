-- What a message may hold: characters that a terminal only shows, and none on which a terminal or an editor acts. (The profile's own;
-- the characters are those of Unicode in UTF-8.)
use Rattle.std.specs.Prelude.{ℕ, ◌+◌, ◌-◌, ◌*◌, ◌==◌, nat_le, Bool, ◌&&◌, ◌||◌, List, if◌then◌else◌, slice_index, ◌≡◌, ◌<◌, ◌/◌, ◌%◌, true, false, not, nat_lt, [], ◌∷◌, ◌++◌, count_by, map, take}
use Rattle.std.specs.List.{AllByRecursion, flat_map}
use Rattle.std.specs.Str.{is_utf8}
use Rattle.wc_diag_texts.specs.Numbers.{is_from}

-- The characters above ASCII on which a terminal or an editor acts, or which are not seen: the control characters (general
-- category Cc), the ends of a line and of a paragraph (Zl, Zp), and each with the property Default_Ignorable_Code_Point (the
-- lines of DerivedCoreProperties.txt of Unicode 18.0.0), as which all count that turn the direction of writing (Bidi_Control).
abbrev pub is_acting : ℕ → Bool
is_acting code =
    is_from 0x80 0x9F code || code == 0xAD || code == 0x34F || code == 0x61C || is_from 0x115F 0x1160 code
    || is_from 0x17B4 0x17B5 code || is_from 0x180B 0x180F code || is_from 0x200B 0x200F code || is_from 0x2028 0x202E code
    || is_from 0x2060 0x206F code || code == 0x3164 || is_from 0xFE00 0xFE0F code || code == 0xFEFF || code == 0xFFA0
    || is_from 0xFFF0 0xFFF8 code || is_from 0x1BCA0 0x1BCA3 code || is_from 0x1D173 0x1D17A code || is_from 0xE0000 0xE0FFF code

-- a byte of a character after its first
abbrev pub continues : ℕ → Bool
continues byte = is_from 128 191 byte

-- these bytes are such a character, of two bytes, of three, of four
abbrev pub two_act : ℕ → ℕ → Bool
two_act first second = is_from 194 223 first && (continues second && is_acting ((first - 192) * 64 + (second - 128)))

abbrev pub acts_above : ℕ → ℕ → Bool
acts_above least code = nat_le least code && is_acting code

abbrev pub three_act : ℕ → ℕ → ℕ → Bool
three_act first second third = is_from 224 239 first && (continues second && (continues third && acts_above 0x800 (((first - 224) * 64 + (second - 128)) * 64 + (third - 128))))

abbrev pub four_act : ℕ → ℕ → ℕ → ℕ → Bool
four_act first second third fourth = is_from 240 244 first && (continues second && (continues third && (continues fourth && acts_above 0x10000 ((((first - 240) * 64 + (second - 128)) * 64 + (third - 128)) * 64 + (fourth - 128)))))

-- the number of bytes of the one that holds
abbrev pub length_of : Bool → Bool → Bool → ℕ
length_of two three four = if two then 2 else (if three then 3 else (if four then 4 else 0))

-- the number of bytes the character has that these begin, if it is such a one; else 0
abbrev pub acting_by : ℕ → ℕ → ℕ → ℕ → ℕ
acting_by first second third fourth = length_of (two_act first second) (three_act first second third) (four_act first second third fourth)

-- so of the one that begins a text
abbrev pub acting_length : List ℕ → ℕ
acting_length bytes = acting_by (slice_index bytes 0) (slice_index bytes 1) (slice_index bytes 2) (slice_index bytes 3)

-- a control character of ASCII
abbrev pub is_control : ℕ → Bool
is_control byte = nat_lt byte 32 || byte == 127

-- a line feed, or a byte that is no control character of ASCII
abbrev pub is_plain : ℕ → Bool
is_plain byte = byte == 10 || not (is_control byte)

-- these bytes begin a character above ASCII on which a terminal or an editor acts, or which is not seen
abbrev pub acts : List ℕ → Bool
acts bytes = nat_lt 0 (acting_length bytes)

-- the first character of a text is a control character of ASCII, or acts so
abbrev pub starts_acting : List ℕ → Bool
starts_acting [] = false
starts_acting (byte ∷ bytes) = is_control byte || acts (byte ∷ bytes)

-- no character of a text acts so, and none is a control character of ASCII
abbrev pub is_calm : List ℕ → Bool
is_calm [] = true
is_calm (byte ∷ bytes) = not (is_control byte || acts (byte ∷ bytes)) && is_calm bytes

-- none of its characters acts so
abbrev pub acts_nowhere : List ℕ → Bool
acts_nowhere [] = true
acts_nowhere (byte ∷ bytes) = not (acts (byte ∷ bytes)) && acts_nowhere bytes

-- a text is shown as it is
abbrev pub passes : List ℕ → Bool
passes bytes = is_calm bytes && is_utf8 bytes

-- a tab as a space
abbrev pub space_for_tab : ℕ → ℕ
space_for_tab byte = if byte == 9 then 32 else byte

abbrev pub with_spaces : List ℕ → List ℕ
with_spaces bytes = map space_for_tab bytes

-- a hexadecimal digit
abbrev pub hex_digit : ℕ → ℕ
hex_digit value = if nat_lt value 10 then 48 + value else 87 + value

-- a byte of another text: printable ASCII as it is, a tab as a space, any other byte as `\x` and its two digits
abbrev pub escaped_byte : ℕ → List ℕ
escaped_byte byte =
    if nat_le 32 byte && nat_le byte 126 then byte ∷ []
    else (if byte == 9 then 32 ∷ [] else 92 ∷ 120 ∷ hex_digit (byte / 16) ∷ hex_digit (byte % 16) ∷ [])

abbrev pub escaped_text : List ℕ → List ℕ
escaped_text bytes = flat_map escaped_byte bytes

-- how bytes are shown on a line: with spaces for tabs, as they are if they pass so, and else escaped
abbrev pub shown_text : List ℕ → List ℕ
shown_text bytes = if passes (with_spaces bytes) then with_spaces bytes else escaped_text bytes

-- these are texts as they are shown, one after another on one line
abbrev pub IsShown : List ℕ → Type 0
IsShown bytes = (texts : List (List ℕ)) × (bytes ≡ flat_map shown_text texts)

-- the number of characters of a UTF-8 text: of its bytes that begin one
abbrev pub characters : List ℕ → ℕ
characters bytes = count_by (λ byte. not (continues byte)) bytes

-- the column of a place of a line, counted from 1: in characters, if the line is UTF-8, else in bytes
abbrev pub column_of : List ℕ → ℕ → ℕ
column_of line place = (if is_utf8 line then characters (take place line) else place) + 1

-- words after a mark; nothing if there are none
abbrev pub words_after : List ℕ → List ℕ → List ℕ
words_after mark [] = []
words_after mark (byte ∷ rest) = mark ++ (byte ∷ rest)

-- no byte is a control of ASCII, a line feed least of all
abbrev pub HasNoControls : List ℕ → Type 0
HasNoControls bytes = AllByRecursion (λ byte. 31 < byte) bytes

-- these bytes are one line with its line feed
pub record IsOneLine (bytes : List ℕ) : Type 0 where
  pub line : List ℕ
  pub ends : bytes ≡ line ++ (10 ∷ [])
  pub controls : HasNoControls line
