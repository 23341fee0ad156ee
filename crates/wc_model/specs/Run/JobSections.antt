-- The sections of a job: a plate, a program text, if there is one the text of the next program, and a log, each under its
-- heading. The form is the profile's own.
use Rattle.std.specs.Prelude.{ℕ, Bool, ◌||◌, ◌==◌, nat_lt, List, [], ◌∷◌, ◌++◌, length, codes, Option, Some, None, Result, Ok, Err, if◌then◌else◌, bytes_eq}
use Rattle.std.specs.List.{concat}

-- a byte before the first of some lines
abbrev pub onto_first_line : ℕ → List (List ℕ) → List (List ℕ)
onto_first_line byte [] = (byte ∷ []) ∷ []
onto_first_line byte (line ∷ lines) = (byte ∷ line) ∷ lines

-- the lines of a text, each with the LF that ends it; the last may have none
abbrev pub whole_lines : List ℕ → List (List ℕ)
whole_lines [] = []
whole_lines (byte ∷ rest) = if byte == 10 then (10 ∷ []) ∷ whole_lines rest else onto_first_line byte (whole_lines rest)

-- whether a line is a heading and nothing else: its word, then LF or CRLF
abbrev pub is_heading : List ℕ → List ℕ → Bool
is_heading word line = bytes_eq line (word ++ (10 ∷ [])) || bytes_eq line (word ++ (13 ∷ 10 ∷ []))

-- the bytes before a heading, and the lines after it
pub record Parted : Type 0 where
  pub section : List ℕ
  pub rest : List (List ℕ)

-- a line before the section
abbrev pub with_line : List ℕ → Option Parted → Option Parted
with_line line None = None
with_line line (Some parted) = Some (record { section = line ++ parted.section; rest = parted.rest })

-- what precedes and follows the first line that is a heading
abbrev pub part_at : List ℕ → List (List ℕ) → Option Parted
part_at word [] = None
part_at word (line ∷ lines) =
    if is_heading word line then Some (record { section = []; rest = lines }) else with_line line (part_at word lines)

-- the sections, each with the line end before the next heading; the next program if it has its heading
pub record Sections : Type 0 where
  pub plate : List ℕ
  pub program : List ℕ
  pub next : Option (List ℕ)
  pub log : List ℕ

-- what is between the headings of the program and of the log is the program, and after the first heading of a next
-- program, if there is one, that program
abbrev pub sections_with_next : (plate between log : List ℕ) → Option Parted → Sections
sections_with_next plate between log None = record { plate = plate; program = between; next = None; log = log }
sections_with_next plate between log (Some parted) =
    record { plate = plate; program = parted.section; next = Some (concat parted.rest); log = log }

-- the sections of a plate and what is parted at the last heading
abbrev pub sections_with_log : List ℕ → Option Parted → Option Sections
sections_with_log plate None = None
sections_with_log plate (Some parted) =
    Some (sections_with_next plate parted.section (concat parted.rest) (part_at (codes "@next") (whole_lines parted.section)))

-- the sections of what is parted at the second heading
abbrev pub sections_with_program : Option Parted → Option Sections
sections_with_program None = None
sections_with_program (Some parted) = sections_with_log parted.section (part_at (codes "@log") parted.rest)

-- the sections of a text in lines, the first of which is the first heading
abbrev pub sections_in : List (List ℕ) → Option Sections
sections_in [] = None
sections_in (first ∷ lines) =
    if is_heading (codes "@plate") first then sections_with_program (part_at (codes "@program") lines) else None

-- the sections, or the number of the refusal if a heading is missing
abbrev pub sections_or_refusal : Option Sections → Result Sections ℕ
sections_or_refusal None = Err 701
sections_or_refusal (Some sections) = Ok sections

-- the greatest length of a job
abbrev pub longest_job : ℕ
longest_job = 1048576

-- the sections of a job, or the number of its refusal
abbrev pub sections_of : List ℕ → Result Sections ℕ
sections_of bytes =
    if nat_lt longest_job (length bytes) then Err 702 else sections_or_refusal (sections_in (whole_lines bytes))
