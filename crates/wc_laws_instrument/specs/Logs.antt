-- A job is its sections with their headings, with nothing lost or put in; the rows of its log: their numbers, their moments and what
-- they bring; the lines of scans taken out of the bytes of a report. (The form of the lines is the profile's own.)
use Rattle.std.specs.Prelude.{◌≡◌, ℕ, true, List, [], ◌∷◌, ◌++◌, codes, Option, Some, None, Ok, suc, ◌≤◌, ◌<◌, ◌^◌, ◌≤ℤ◌, length, ◌==◌, Bool, false, not, filter}
use Rattle.std.specs.List.{concat}
use Rattle.std.specs.Int.Digits.{AllBelowBase}
use Rattle.wc_model.specs.Definitions.{Sections, is_heading, sections_of, whole_lines, least_sample, greatest_sample, PlateData, Record, greatest_moment, log_of, longest_chunk, most_rows, RowData, Counts, Bytes, Inputs, Scan, Change, LogRow, Program, line_report, report, report_last}

-- a next program follows its heading's line; if there is none, nothing is there
abbrev pub IsNextPart : Option (List ℕ) → List ℕ → Type 0
IsNextPart None part = part ≡ []
IsNextPart (Some next) part = (line : List ℕ) × (is_heading (codes "@next") line ≡ true) × (part ≡ line ++ next)

-- The bytes are the sections, each after its heading's line.
pub record IsMadeOf (bytes : List ℕ) (sections : Sections) : Type 0 where
  pub plate_line : List ℕ
  pub program_line : List ℕ
  pub next_part : List ℕ
  pub log_line : List ℕ
  pub plate_heading : is_heading (codes "@plate") plate_line ≡ true
  pub program_heading : is_heading (codes "@program") program_line ≡ true
  pub next_heading : IsNextPart sections.next next_part
  pub log_heading : is_heading (codes "@log") log_line ≡ true
  pub whole : bytes ≡ concat (plate_line ∷ sections.plate ∷ program_line ∷ sections.program ∷ next_part ∷ log_line ∷ sections.log ∷ [])

-- the sections of a job, with their headings, are its bytes again
abbrev pub JobIsItsSections : Type 0
JobIsItsSections = (bytes : List ℕ) (sections : Sections) → sections_of bytes ≡ Ok sections → IsMadeOf bytes sections

-- what a row brings is in its range
abbrev pub IsDataInRange : RowData → Type 0
IsDataInRange (Counts counts) = (least_sample ≤ℤ counts) × (counts ≤ℤ greatest_sample)
IsDataInRange (Bytes bytes) = (length bytes ≤ longest_chunk) × AllBelowBase 256 bytes
IsDataInRange (Inputs inputs) = inputs < 2 ^ 16
IsDataInRange Scan = Unit {0}
IsDataInRange Change = Unit {0}

-- The rows are numbered on from this number, within the limit; no moment is before the one before it, or too great.
abbrev pub AreInOrder : (number earliest : ℕ) → List LogRow → Type 0
AreInOrder number earliest [] = Unit {0}
AreInOrder number earliest (row ∷ rows) =
    (row.number ≡ number) × (number ≤ most_rows) × (earliest ≤ row.ms) × (row.ms ≤ greatest_moment) × IsDataInRange row.brings
    × AreInOrder (suc number) row.ms rows

-- so are the rows of every log; its first row, which names the fields, has the number before theirs
abbrev pub RowsAreInOrder : Type 0
RowsAreInOrder = (records : List Record) → AreInOrder 2 0 (log_of records).rows

-- whether a line's first byte is an S
abbrev pub begins_with_s : List ℕ → Bool
begins_with_s [] = false
begins_with_s (byte ∷ bytes) = byte == 83

-- the bytes of a text without its lines that begin with an S
abbrev pub without_scan_lines : List ℕ → List ℕ
without_scan_lines bytes = concat (filter (λ line. not (begins_with_s line)) (whole_lines bytes))

-- Without the lines that begin with an S the bytes that a run writes are those of the line, which a run with no
-- program writes.
--     whole      of a run that writes every scan
--     last       of a run that writes the last scans
--     line       and with no program there is no such line
pub record ScanLinesComeOut {State : Type 0} (p : PlateData) (program : Program State) (start : State) (rows : List LogRow) : Type 0 where
  pub whole : without_scan_lines (report p program start rows) ≡ line_report p rows
  pub last : (n : ℕ) → without_scan_lines (report_last n p program start rows) ≡ line_report p rows
  pub line : without_scan_lines (line_report p rows) ≡ line_report p rows
