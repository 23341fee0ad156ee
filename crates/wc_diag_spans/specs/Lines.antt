-- The lines of a text, as a message numbers and shows them, and which of them it shows. A line ends with LF or CR LF. (The profile's own.)
use Rattle.std.specs.Prelude.{◌≡◌, ℕ, zero, suc, ◌==◌, List, [], ◌∷◌, map, Option, None, slice_get, not, drop, take, if◌then◌else◌, ◌≤◌, is_some, length, unwrap_or}
use Rattle.std.specs.List.{slice_split, suffix_len}
use Rattle.wc_job.specs.declared.input.Input.{Input}
use Rattle.wc_job.specs.declared.input.Input.TheVariants.{Plate, Program, Next}

-- a line without the CR at its end
abbrev pub without_return : List ℕ → List ℕ
without_return [] = []
without_return (byte ∷ []) = if byte == 13 then [] else byte ∷ []
without_return (byte ∷ next ∷ rest) = byte ∷ without_return (next ∷ rest)

-- a text cut at each LF: after the last LF comes one more line
abbrev pub cut_lines : List ℕ → List (List ℕ)
cut_lines text = slice_split (λ byte. byte == 10) text

-- the lines of a text, without their ends
abbrev pub lines_of : List ℕ → List (List ℕ)
lines_of text = map without_return (cut_lines text)

-- no LF ends this line
abbrev pub IsOneLine : List ℕ → Type 0
IsOneLine text = cut_lines text ≡ text ∷ []

-- these bytes are below the first line
abbrev pub HasBelow : List ℕ → List ℕ → Type 0
HasBelow text below = (first : List ℕ) × (cut_lines text ≡ first ∷ cut_lines below)

-- these bytes are below that number of lines
abbrev pub AreLinesAbove : List ℕ → ℕ → List ℕ → Type 0
AreLinesAbove text count below = drop count (cut_lines text) ≡ cut_lines below

-- the line of that number, counted from 1; nothing if the text has none
abbrev pub line_of_number : ℕ → List ℕ → Option (List ℕ)
line_of_number zero text = None
line_of_number (suc before) text = slice_get (lines_of text) before

-- the number of bytes of its line before a place: those after the last LF
abbrev pub column_at : List ℕ → ℕ → ℕ
column_at text place = suffix_len (λ byte. not (byte == 10)) (take place text)

-- these are the bytes of the line of that number, without its end: 0 is not a line, and no line has no
-- bytes
pub record ShowsLine (text : List ℕ) (line : ℕ) (shown : List ℕ) : Type 0 where
  pub bytes : shown ≡ unwrap_or (line_of_number line text) []
  pub within : line ≤ length (lines_of text)

-- the number, if the text has that line; else 0
abbrev pub known_line : List ℕ → ℕ → ℕ
known_line text number = if is_some (line_of_number number text) then number else 0

-- the line that is shown: of a program the one that is refused, of a job or a log none; of a plate, whose
-- refusals name no line, one that is found
abbrev pub line_of_part : Input → ℕ → ℕ → ℕ
line_of_part Plate place found = found
line_of_part Program place found = place
line_of_part Next place found = place
line_of_part part place found = 0

-- the next program is a program
abbrev pub read_as : Input → Input
read_as Next = Program
read_as part = part
