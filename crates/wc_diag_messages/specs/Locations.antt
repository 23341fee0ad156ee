-- Where a refusal is, as a message says it next to the line that is named: in which text of a job, and after how many lines. (The profile's own.)
use Rattle.wc_job.specs.declared.input.Input as declared
use Rattle.std.specs.Prelude.{◌≡◌, ℕ, ◌==◌, List, [], ◌++◌, Option, Some, None, Result, Ok, Err, count_by, Bool, ◌∷◌, length, replicate, codes, if◌then◌else◌, decimal}
use Rattle.wc_job.specs.declared.input.Input.TheVariants.{Job, Plate, Program, Next, Log, Names}
use Rattle.wc_laws_instrument.specs.Logs.{IsMadeOf, IsNextPart}
use Rattle.wc_model.specs.Run.JobSections.{Sections, sections_of}
use Rattle.wc_diag_spans.specs.declared.diagnostic.Span.{Span}
use Rattle.wc_job.specs.declared.input.Input.{Input}
use Rattle.wc_diag_texts.specs.Plain.{column_of, shown_text}
use Rattle.wc_diag_texts.specs.declared.message.Message.{Message}

-- the section that is this part
abbrev pub text_in : declared.Input → Sections → Option (List ℕ)
text_in Job sections = None
text_in Names sections = None
text_in Plate sections = Some sections.plate
text_in Program sections = Some sections.program
text_in Next sections = sections.next
text_in Log sections = Some sections.log

-- the text of a part, if the job could be cut into sections
abbrev pub text_of : declared.Input → Result Sections ℕ → Option (List ℕ)
text_of part (Ok sections) = text_in part sections
text_of part (Err number) = None

-- the number of lines that end in these bytes
abbrev pub line_ends : List ℕ → ℕ
line_ends bytes = count_by (λ byte. byte == 10) bytes

-- the heading's line of a next program, if there is one
abbrev pub next_line : (next : Option (List ℕ)) (part : List ℕ) → IsNextPart next part → List ℕ
next_line None part heading = []
next_line (Some next) part heading = heading.0

-- the bytes of a job before a part of it
abbrev pub bytes_before : (part : declared.Input) (bytes : List ℕ) (sections : Sections) → IsMadeOf bytes sections → List ℕ
bytes_before Job bytes sections made = []
bytes_before Names bytes sections made = []
bytes_before Plate bytes sections made = made.plate_line
bytes_before Program bytes sections made = made.plate_line ++ (sections.plate ++ made.program_line)
bytes_before Next bytes sections made =
    made.plate_line ++ (sections.plate ++ (made.program_line ++ (sections.program ++ next_line sections.next made.next_part made.next_heading)))
bytes_before Log bytes sections made =
    made.plate_line ++ (sections.plate ++ (made.program_line ++ (sections.program ++ (made.next_part ++ made.log_line))))

-- that number of lines of the job is above the part
abbrev pub IsBelow : List ℕ → declared.Input → ℕ → Type 0
IsBelow job part above =
    (sections : Sections) → sections_of job ≡ Ok sections → (made : IsMadeOf job sections) → above ≡ line_ends (bytes_before part job sections made)

-- these bytes are written after those of a message
abbrev pub Writes : (old new : Message) → List ℕ → Type 0
Writes old new text = new.bytes.items ≡ old.bytes.items ++ text

-- a number as it is written
abbrev pub number_text : ℕ → List ℕ
number_text number = shown_text (decimal number)

-- as many spaces as the line's number has digits
abbrev pub margin_text : ℕ → List ℕ
margin_text line = replicate (length (number_text line)) 32

-- a line, or a column, after what it is in; nothing if none is known
abbrev pub line_text : ℕ → List ℕ
line_text line = if line == 0 then [] else shown_text (codes ":") ++ number_text line

-- the column of the offending slice, counted from 1; 0 if there is none
abbrev pub first_column : List ℕ → Option Span → ℕ
first_column line None = 0
first_column line (Some span) = column_of line span.start

-- it as it is written; nothing if there is none
abbrev pub column_text : List ℕ → Option Span → List ℕ
column_text line span = line_text (first_column line span)

-- the line with which a section of a job begins
abbrev pub heading : Input → List ℕ
heading Job = []
heading Names = []
heading Plate = codes "@plate"
heading Program = codes "@program"
heading Next = codes "@next"
heading Log = codes "@log"

-- what is counted in a part
abbrev pub counted_name : Input → List ℕ
counted_name Log = codes "row "
counted_name part = codes "line "

-- a line or a row by its number
abbrev pub counted_text : Input → ℕ → List ℕ
counted_text part place = shown_text (counted_name part) ++ number_text place

-- a place in a section of a job; the section alone if no place is named
abbrev pub section_text : Input → ℕ → List ℕ
section_text part place =
    if place == 0 then shown_text (heading part)
    else counted_text part place ++ shown_text (codes " of ") ++ shown_text (heading part)

-- the row of a log, if one is named; the lines of other parts are those of the file
abbrev pub row_text : Input → ℕ → List ℕ
row_text Log place = if place == 0 then [] else counted_text Log place
row_text part place = []

-- the place by which a refusal is counted, if it is not the line that is named
abbrev pub place_text : Bool → Input → ℕ → List ℕ
place_text in_job part place = if in_job then section_text part place else row_text part place

-- words between brackets; no brackets around nothing
abbrev pub in_brackets : List ℕ → List ℕ
in_brackets [] = []
in_brackets (byte ∷ rest) = shown_text (codes " (") ++ (byte ∷ rest) ++ shown_text (codes ")")

-- what follows the line: the column, and the place that is counted
abbrev pub alongside_text : List ℕ → Option Span → List ℕ → List ℕ
alongside_text line span place = column_text line span ++ in_brackets place
