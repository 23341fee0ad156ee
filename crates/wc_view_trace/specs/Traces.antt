-- What `trace` writes of a run: of each scan that is chosen its items, in the format asked for. (The profile's own.)
use Rattle.wc_view_trace.specs.declared.tracing.TraceFormat.TheVariants as format
use Rattle.wc_view_trace.specs.Scans as objects
use Rattle.wc_view_trace_rows.specs.Scans as rows
use Rattle.std.specs.Prelude.{◌≡◌, ◌≤◌, ℕ, Option, IfSome, ◌⊎◌, ◌+◌, ◌-◌, ◌^◌, ◌==◌, Bool, true, false, List, [], ◌∷◌, ◌++◌, filter, min, Some, None, if◌then◌else◌}
use Rattle.std.specs.Io.KnownBytes.{Appends}
use Rattle.wc_machine.specs.Machines.{MachineState, RepresentsText}
use Rattle.wc_model.specs.Definitions.{PlateData, LogRefusal, Change, LogRow, Past, RowData, Logic, logic_following, ReportLine, ScanLine, is_scan_line}
use Rattle.wc_run.specs.{lines_of_row, AreItems, Start, onto}
use Rattle.wc_view_trace.specs.declared.tracing.ScanFilter.{ScanFilter}
use Rattle.wc_view_trace.specs.declared.tracing.TraceFormat.{TraceFormat}
use Rattle.wc_view_trace_rows.specs.{IsLegendOf, none_chosen}
use Rattle.wc_view_trace_rows.specs.declared.legend.Legend.{Legend}
use Rattle.wc_view_trace_rows.specs.declared.shown_scan.ShownScan.{ShownScan}

-- a moment is between two, if they are given
abbrev pub IsBetween : Option ℕ → Option ℕ → ℕ → Type 0
IsBetween from to ms = IfSome from (λ first. first ≤ ms) × IfSome to (λ last. ms ≤ last)

-- the scan of that number and moment meets each condition that is given
abbrev pub IsChosen : ScanFilter → ℕ → ℕ → Type 0
IsChosen chosen number ms = IfSome chosen.at (λ at. ms ≡ at) × (IfSome chosen.scan (λ scan. number ≡ scan) × IsBetween chosen.from chosen.to ms)

-- which scans are shown, and in which format
pub record Tracing : Type 0 where
  pub chosen : ScanFilter
  pub format : TraceFormat

abbrev pub tracing : ScanFilter → TraceFormat → Tracing
tracing chosen format = record { chosen = chosen; format = format }

-- one more, as far as 32 bits count
abbrev pub counted_on : ℕ → ℕ
counted_on n = min (n + 1) (2 ^ 32 - 1)

-- the lines of scans that the report has of a row: one of a scan with a program, else none
abbrev pub scans_of_row : PlateData → Option Logic → Past → LogRow → List ReportLine
scans_of_row plate logic past row = filter is_scan_line (lines_of_row plate logic past row)

-- the number of scans with that of a row, if it has one
abbrev pub counted_with : List ReportLine → ℕ → ℕ
counted_with [] n = n
counted_with (line ∷ lines) n = counted_on n

-- the number of scans of the rows so far
abbrev pub scans_so_far : PlateData → Option Logic → Past → ℕ
scans_so_far plate logic [] = 0
scans_so_far plate logic (row ∷ past) = counted_with (scans_of_row plate logic past row) (scans_so_far plate logic past)

-- the bytes of the text that runs, and those of the next one
pub record Texts : Type 0 where
  pub running : Option (List ℕ)
  pub next : Option (List ℕ)

-- at a change the next one runs, and none is left
abbrev pub texts_with : RowData → Texts → Texts
texts_with Change texts = record { running = texts.next; next = None }
texts_with brings texts = texts

abbrev pub texts_after : Start → Past → Texts
texts_after start [] = record { running = start.first; next = start.next }
texts_after start (row ∷ past) = texts_with row.brings (texts_after start past)

-- whether the program was changed
abbrev pub is_changed_with : RowData → Bool → Bool
is_changed_with Change changed = true
is_changed_with brings changed = changed

abbrev pub is_changed : Past → Bool
is_changed [] = false
is_changed (row ∷ past) = is_changed_with row.brings (is_changed past)

-- a scan of a machine with this legend in a format
abbrev pub IsScanIn : TraceFormat → Legend → MachineState → ShownScan → List ℕ → Type 0
IsScanIn format.Text legend machine scan text = rows.IsScanText legend machine scan text
IsScanIn format.Json legend machine scan text = objects.IsScanObject legend machine scan text

-- what is shown of a scan: its number among those of the run, whether the program was changed, the time and the outputs that the
-- report's line has, and the items that it executes
pub record IsShownScan (plate : PlateData) (logic : Option Logic) (past : Past) (row : LogRow) (number : ℕ) (line : ReportLine) (scan : ShownScan) : Type 0 where
  pub number_is : scan.number ≡ number
  pub changed_is : scan.is_changed ≡ is_changed (row ∷ past)
  pub steps : ℕ
  pub line_is : line ≡ ScanLine scan.ms steps scan.outputs
  pub items_are : AreItems plate logic past row (Some scan.lines.now)

-- the text of a scan, by a legend of the program's text and a machine as the scan has left it
pub record IsScanOf (t : Tracing) (plate : PlateData) (first : Logic) (past : Past) (row : LogRow) (number : ℕ) (line : ReportLine) (bytes text : List ℕ) : Type 0 where
  pub legend : Legend
  pub legend_is : IsLegendOf legend bytes (logic_following plate first (row ∷ past)).text
  pub machine : MachineState
  pub represents : RepresentsText machine (logic_following plate first (row ∷ past)).text (logic_following plate first (row ∷ past)).store
  pub scan : ShownScan
  pub scan_is : IsShownScan plate (Some first) past row number line scan
  pub text_is : IsScanIn t.format legend machine scan text

-- a scan with no text has nothing to show
abbrev pub ShowsScan : Tracing → PlateData → Option Logic → Past → LogRow → ℕ → ReportLine → Option (List ℕ) → List ℕ → Type 0
ShowsScan t plate None past row number line bytes text = text ≡ []
ShowsScan t plate (Some first) past row number line None text = text ≡ []
ShowsScan t plate (Some first) past row number line (Some bytes) text = IsScanOf t plate first past row number line bytes text

-- a row whose scan is chosen is written as that scan, and any other row as nothing; and these numbers of
-- scans are shown before and after it
abbrev pub TracesScans : Tracing → Start → PlateData → Option Logic → Past → LogRow → List ReportLine → ℕ → ℕ → List ℕ → Type 0
TracesScans t start plate logic past row [] before after text = (after ≡ before) × (text ≡ [])
TracesScans t start plate logic past row (line ∷ lines) before after text =
    let number = counted_on (scans_so_far plate logic past) in
    (IsChosen t.chosen number row.ms × (after ≡ counted_on before) × ShowsScan t plate logic past row number line (texts_after start (row ∷ past)).running text)
    ⊎ ((IsChosen t.chosen number row.ms → ⊥) × (after ≡ before) × (text ≡ []))

abbrev pub TracesRow : Tracing → Start → PlateData → Option Logic → Past → LogRow → ℕ → ℕ → List ℕ → Type 0
TracesRow t start plate logic past row before after text = TracesScans t start plate logic past row (scans_of_row plate logic past row) before after text

-- what is written of the rows so far, one after another, with the number of scans that are shown
abbrev pub TracesRows : Tracing → Start → PlateData → Option Logic → Past → ℕ → List ℕ → Type 0
TracesRows t start plate logic [] shown text = (shown ≡ 0) × (text ≡ [])
TracesRows t start plate logic (row ∷ past) shown text =
    (before : ℕ) × (earlier : List ℕ) × (this : List ℕ) × TracesRows t start plate logic past before earlier × TracesRow t start plate logic past row before shown this
    × (text ≡ earlier ++ this)

-- after the last row: in columns only if no scan was chosen, as an object the number of scans and of those shown; nothing after a
-- refused row
abbrev pub IsEndOf : TraceFormat → ℕ → ℕ → List ℕ → Type 0
IsEndOf format.Text scans shown text = text ≡ (if shown == 0 then none_chosen scans else [])
IsEndOf format.Json scans shown text = objects.IsEndObject scans shown text

abbrev pub TracesEnd : TraceFormat → ℕ → ℕ → Option LogRefusal → List ℕ → Type 0
TracesEnd format scans shown None text = IsEndOf format scans shown text
TracesEnd format scans shown (Some refusal) text = text ≡ []

-- what is written of a run of these rows in all
pub record IsTrace (t : Tracing) (start : Start) (plate : PlateData) (logic : Option Logic) (past : Past) (refusal : Option LogRefusal) (text : List ℕ) : Type 0 where
  pub shown : ℕ
  pub of_rows : List ℕ
  pub of_end : List ℕ
  pub rows_are : TracesRows t start plate logic past shown of_rows
  pub end_is : TracesEnd t.format (scans_so_far plate logic past) shown refusal of_end
  pub text_is : text ≡ of_rows ++ of_end

-- the bytes that a writer has taken are those of the trace, after those before the run
abbrev pub HasTraced : Tracing → Start → Option (List ℕ) → PlateData → Option Logic → List LogRow → Option LogRefusal → Type 0
HasTraced t start taken plate logic all refusal =
    (past : Past) × (all ≡ onto past []) × (text : List ℕ) × IsTrace t start plate logic past refusal text × Appends start.taken taken text
