-- What an observer of a run is shown of a row, and what it writes. (The profile's own.)
use Rattle.std.specs.Prelude.{List, map, ◌≡◌, ⊤, ℕ, Bool, true, false, [], ◌∷◌, ◌++◌, Option, Some, None, IfSome, is_some, option_map}
use Rattle.wc_model.specs.Definitions.{ReportLine, ScanLine, answer_line, PlateData, text_view, LogRefusal, image_after, LogRow, Past, Logic, first_logic, logic_following}
use Rattle.wc_record.specs.declared.last_scans.Record.{Record}
use Rattle.wc_cost.specs.LoadedTexts.{LoadedText}
use Rattle.wc_machine.specs.Seeing.{IsSeen}
use Rattle.wc_machine.specs.declared.seen.SeenLine.{SeenLine}
use Rattle.wc_record.specs.Views.{head_view}
use Rattle.wc_run.specs.Logics.{lines_of_row, text_of_next}
use Rattle.wc_run.specs.declared.fault.RunFault.{RunFault}
use Rattle.wc_run.specs.declared.fault.RunFault.TheVariants.{Refused, Read, Write, Memory}
use Rattle.wc_run.specs.declared.program.Program.{Program}
use Rattle.wc_run.specs.declared.row_seen.RowSeen.{RowSeen}
use Rattle.wc_run.specs.declared.row_seen.ScanSeen.{ScanSeen}

-- the line of a scan that is recorded
abbrev pub line_of_record : Record → ReportLine
line_of_record scan = ScanLine scan.ms scan.steps scan.outputs

-- the lines of records, in their order
abbrev pub lines_of_records : List Record → List ReportLine
lines_of_records scans = map line_of_record scans

-- what an observer writes of a row after those so far, the newest of which comes first, and what it writes after the last
-- of these rows, or after those before a refused one
pub record Plan : Type 0 where
  pub at_row : PlateData → Option Logic → Past → LogRow → List ℕ
  pub at_end : PlateData → Option Logic → List LogRow → Option LogRefusal → List ℕ

-- what it writes of the rows that follow those so far
abbrev pub text_coming : Plan → PlateData → Option Logic → Past → List LogRow → List ℕ
text_coming plan plate logic past [] = []
text_coming plan plate logic past (row ∷ rows) = plan.at_row plate logic past row ++ text_coming plan plate logic (row ∷ past) rows

-- what is written in all of a log's rows, with the refusal after them or with none
abbrev pub Written : Type 0
Written = PlateData → Option Logic → Option LogRefusal → List LogRow → List ℕ

-- what is written by a plan
abbrev pub text_in_all : Plan → Written
text_in_all plan plate logic refusal rows = text_coming plan plate logic [] rows ++ plan.at_end plate logic rows refusal

-- rows with those before them, the newest of which comes first
abbrev pub onto : Past → List LogRow → List LogRow
onto [] rows = rows
onto (row ∷ past) rows = onto past (row ∷ rows)

-- what is said of the bytes that a writer takes: these, or nothing
abbrev pub said : Bool → Option (List ℕ) → Option (List ℕ)
said true bytes = bytes
said false bytes = None

-- so of a writer
abbrev pub said_by : {W : Type 0} → Bool → (W → Option (List ℕ)) → W → Option (List ℕ)
said_by speaks bytes_taken writer = said speaks (bytes_taken writer)

-- the row that is shown
abbrev pub row_of : RowSeen → LogRow
row_of seen = head_view seen.bytes.now seen.row

-- the line of a scan that was done
abbrev pub lines_of_scan : Option ScanSeen → List ReportLine
lines_of_scan None = []
lines_of_scan (Some scan) = line_of_record scan.record ∷ []

-- the lines of the report of what is shown: the answer's, unless it is empty, and the scan's
abbrev pub lines_of_seen : RowSeen → List ReportLine
lines_of_seen seen = answer_line seen.row.ms seen.answer.now ++ lines_of_scan seen.scan

-- if what a scan executes is looked at, these are the items of the scan that the row brings
abbrev pub AreItems : PlateData → Option Logic → Past → LogRow → Option (List SeenLine) → Type 0
AreItems plate logic past row None = ⊤
AreItems plate None past row (Some lines) = ⊤
AreItems plate (Some logic) past row (Some lines) =
    IsSeen (logic_following plate logic past).text (logic_following plate logic past).store (image_after plate past) row.ms lines

-- what is looked at in a scan that was done
abbrev pub items_of : ScanSeen → Option (List SeenLine)
items_of scan = option_map (λ lines. lines.items) scan.lines

-- what is shown is what the row brings, after those so far: the line's answer, the scan, and what it executes
pub record IsShown (seen : RowSeen) (plate : PlateData) (logic : Option Logic) (past : Past) : Type 0 where
  pub lines : lines_of_row plate logic past (row_of seen) ≡ lines_of_seen seen
  pub items : IfSome seen.scan (λ scan. AreItems plate logic past (row_of seen) (items_of scan))

-- the logic of a first program and a next one, or of none
abbrev pub logic_of : Option LoadedText → Option LoadedText → Option Logic
logic_of first next = option_map (λ loaded. first_logic (text_view loaded.source) (text_of_next next)) first

-- what was loaded of a program
abbrev pub loaded_of : Option Program → Option LoadedText
loaded_of program = option_map (λ p. p.loaded.now) program

-- what a run begins with: the bytes of its programs' texts, and those that the writer of its output has taken, if they are known
pub record Start : Type 0 where
  pub first : Option (List ℕ)
  pub next : Option (List ℕ)
  pub taken : Option (List ℕ)

-- the bytes of a program's text
abbrev pub bytes_of : Option Program → Option (List ℕ)
bytes_of program = option_map (λ p. p.text.now) program

-- the start of a run with these programs
abbrev pub start_of : Option Program → Option Program → Option (List ℕ) → Start
start_of first next taken = record { first = bytes_of first; next = bytes_of next; taken = taken }

-- the start of a run with a text of these bytes, and a next one or none
abbrev pub start_with : List ℕ → Option (List ℕ) → Option (List ℕ) → Start
start_with text next taken = record { first = Some text; next = next; taken = taken }

-- whether the items of a scan were looked at, if one was done
abbrev pub IsLookedAt : Option ScanSeen → Bool → Type 0
IsLookedAt None looked = ⊤
IsLookedAt (Some scan) looked = is_some scan.lines ≡ looked

-- why an observer does not begin: out of memory, or it refuses to, because a name is unknown, and holds what it says of that
abbrev pub RefusesToBegin : Bool → Type 0 → RunFault → Type 0
RefusesToBegin begins held (Refused number place) = (begins ≡ false) × held × (number ≡ 401) × (place ≡ 0)
RefusesToBegin begins held Read = ⊥
RefusesToBegin begins held Write = ⊥
RefusesToBegin begins held Memory = ⊤

-- the refusal of that number at that row
abbrev pub refusal_of : Option (ℕ × ℕ) → Option LogRefusal
refusal_of refused = option_map (λ r. record { number = r.0; row = r.1 }) refused
