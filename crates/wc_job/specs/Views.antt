-- What the answers of this crate represent: what reading a job to its end gives, and what it takes of the reader.
use Rattle.wc_job.specs.declared.parts.Sections as answer
use Rattle.std.specs.Prelude.{◌≡◌, ⊤, ℕ, ◌+◌, ◌-◌, ◌<◌, ◌≤◌, Bool, true, false, List, ◌++◌, length, take, Option, IfSome, Result, Ok, Err, ◌==◌, min, [], ◌∷◌, codes, Some, None, option_map}
use Rattle.std.specs.Io.KnownBytes.{Consumes, IsAtEnd, Keeps}
use Rattle.std.specs.List.{position_or_len}
use Rattle.wc_model.specs.Definitions.{counted, longest_job, Parted, Sections, whole_lines}
use Rattle.wc_job.specs.declared.reading.ReadFault.{ReadFault}
use Rattle.wc_job.specs.declared.reading.ReadFault.TheVariants.{TooLong, Read, Memory}
use Rattle.wc_job.specs.declared.cutting.Heading.{Heading}
use Rattle.wc_job.specs.declared.cutting.Heading.TheVariants.{Plate, Program, Next, Log}
use Rattle.wc_job.specs.declared.parts.SplitLine.{SplitLine}

-- at most n bytes are taken of a reader whose bytes are known
abbrev pub TakesAtMost : ℕ → Option (List ℕ) → Option (List ℕ) → Type 0
TakesAtMost most old new = (bytes : List ℕ) × Consumes old new bytes × (length bytes ≤ most)

-- a read of at most n bytes: they are at the buffer's start, and there are none only at the end
abbrev pub ReadsInto : {E : Type 0} → ℕ → Option (List ℕ) → Option (List ℕ) → Result ℕ E → List ℕ → Type 0
ReadsInto most old new (Ok count) buffer =
    (count ≤ most) × Consumes old new (take count buffer) × (count ≡ 0 → 0 < most → IsAtEnd new)
ReadsInto most old new (Err e) buffer = Keeps old new

-- one read more: bytes that are added, the end, or a fault
abbrev pub Adds : Option (List ℕ) → Option (List ℕ) → Result Bool ReadFault → List ℕ → List ℕ → Type 0
Adds old new (Ok true) before after =
    (bytes : List ℕ) × (after ≡ before ++ bytes) × Consumes old new bytes × (0 < length bytes) × (length after ≤ longest_job + 1)
Adds old new (Ok false) before after = (after ≡ before) × Keeps old new × IsAtEnd new
Adds old new (Err TooLong) before after = ⊥
Adds old new (Err Read) before after = Keeps old new
Adds old new (Err Memory) before after = TakesAtMost (longest_job + 1 - length before) old new

-- failed calls, one more if a read failed and else no more
abbrev pub failures_after : {X : Type 0} → ℕ → Result X ReadFault → ℕ
failures_after old (Ok x) = old
failures_after old (Err TooLong) = old
failures_after old (Err Read) = counted old 1
failures_after old (Err Memory) = old

-- the bytes of a job: all that the reader had, no more than the longest
abbrev pub IsWhole : Option (List ℕ) → List ℕ → Type 0
IsWhole known bytes = (length bytes ≤ longest_job) × IfSome known (λ all. bytes ≡ all)

-- a job is too long if it has more than the longest
abbrev pub IsOverTheLimit : Option (List ℕ) → ReadFault → Type 0
IsOverTheLimit known TooLong = IfSome known (λ all. longest_job < length all)
IsOverTheLimit known Read = ⊤
IsOverTheLimit known Memory = ⊤

-- the word of a heading
abbrev pub heading_view : Heading → List ℕ
heading_view Plate = codes "@plate"
heading_view Program = codes "@program"
heading_view Next = codes "@next"
heading_view Log = codes "@log"

-- the number of bytes the first line has, with its LF if it has one
abbrev pub line_length : List ℕ → ℕ
line_length text = min (position_or_len (λ byte. byte == 10) text + 1) (length text)

-- the text has lines, and this is the first of them, with these bytes after it; or it has none
abbrev pub BeginsWithLine : List ℕ → List ℕ → List ℕ → Type 0
BeginsWithLine [] line after = (line ≡ []) × (after ≡ [])
BeginsWithLine (byte ∷ rest) line after = (whole_lines (byte ∷ rest) ≡ line ∷ whole_lines after) × (0 < length line)

-- the bytes before a heading, and the lines after it
abbrev pub parted_view : Option SplitLine → Option Parted
parted_view None = None
parted_view (Some split_line) = Some (record { section = split_line.section.now; rest = whole_lines split_line.rest.now })

-- the sections
abbrev pub sections_view : answer.Sections → Sections
sections_view sections = record {
  plate = sections.plate.now;
  program = sections.program.now;
  next = option_map (λ text. text.now) sections.next;
  log = sections.log.now;
}

-- the sections, if there are some
abbrev pub found_view : Option answer.Sections → Option Sections
found_view None = None
found_view (Some sections) = Some (sections_view sections)

-- the sections, or the number of the refusal
abbrev pub result_view : Result answer.Sections ℕ → Result Sections ℕ
result_view (Ok sections) = Ok (sections_view sections)
result_view (Err number) = Err number
