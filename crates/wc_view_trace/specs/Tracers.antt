-- What an observer that traces a run holds after its rows, and what it does with one. (No rule of the language.)
use Rattle.std.specs.Prelude.{◌≡◌, ⊤, ℕ, Bool, true, false, List, [], Option, Some, None}
use Rattle.std.specs.Io.KnownBytes.{Appends}
use Rattle.wc_machine.specs.Machines.{MachineState}
use Rattle.wc_machine.specs.declared.seen.SeenLine.{SeenLine}
use Rattle.wc_model.specs.Definitions.{PlateData, Text, text_view, Change, Past, RowData, Logic}
use Rattle.wc_run.specs.{logic_after, Start, items_of}
use Rattle.wc_run.specs.declared.program.Program.{Program}
use Rattle.wc_run.specs.declared.row_seen.ScanSeen.{ScanSeen}
use Rattle.wc_view_trace.specs.Traces.{IsChosen, Tracing, TracesRows, counted_on, is_changed, scans_so_far, texts_after}
use Rattle.wc_view_trace.specs.declared.tracing.TraceFormat.{TraceFormat}
use Rattle.wc_view_trace.specs.declared.tracing.TraceFormat.TheVariants as format
use Rattle.wc_view_trace.specs.declared.tracer.Tracer.{Tracer}
use Rattle.wc_view_trace.specs.Scans as objects
use Rattle.wc_view_trace_rows.specs.Legends.{IsLegendOf}
use Rattle.wc_view_trace_rows.specs.Scans as rows
use Rattle.wc_view_trace_rows.specs.declared.legend.Legend.{Legend}
use Rattle.wc_view_trace_rows.specs.declared.shown_scan.ShownScan.{ShownScan}

-- what it was asked for
abbrev pub tracing_of : Tracer → Tracing
tracing_of tracer = record { chosen = tracer.chosen; format = tracer.format }

-- it was asked for the same
pub record IsSame (old new : Tracer) : Type 0 where
  pub chosen : new.chosen ≡ old.chosen
  pub format : new.format ≡ old.format

-- it has seen no scan, and no change
pub record IsFresh (tracer : Tracer) : Type 0 where
  pub scans : tracer.scans ≡ 0
  pub shown : tracer.shown ≡ 0
  pub unchanged : tracer.is_changed ≡ false

-- it has counted the same
pub record CountsAs (old new : Tracer) : Type 0 where
  pub scans : new.scans ≡ old.scans
  pub shown : new.shown ≡ old.shown

-- it has the same legends
pub record ShowsAs (old new : Tracer) : Type 0 where
  pub legend : new.legend ≡ old.legend
  pub next : new.next ≡ old.next
  pub changed : new.is_changed ≡ old.is_changed

-- at a change the legend of the next text takes the place of the first
abbrev pub Turns : RowData → Tracer → Tracer → Type 0
Turns Change old new = (new.legend ≡ old.next) × (new.next ≡ None) × (new.is_changed ≡ true)
Turns brings old new = ShowsAs old new

-- whether it looks at the items of a scan at a moment: if that scan is chosen
abbrev pub Looks : Tracer → ℕ → Bool → Type 0
Looks tracer ms looked =
    (looked ≡ true → IsChosen tracer.chosen (counted_on tracer.scans) ms) × (looked ≡ false → IsChosen tracer.chosen (counted_on tracer.scans) ms → ⊥)

-- it has put a scan in its format, if there is a legend
abbrev pub PutsScan : TraceFormat → Option Legend → MachineState → ShownScan → List ℕ → List ℕ → Type 0
PutsScan format None machine scan old new = new ≡ old
PutsScan format.Text (Some legend) machine scan old new = rows.PutsScan legend machine scan old new
PutsScan format.Json (Some legend) machine scan old new = objects.PutsScan legend machine scan old new

-- the scan that it shows, with these items
pub record IsShownAs (tracer : Tracer) (seen : ScanSeen) (lines : List SeenLine) (scan : ShownScan) : Type 0 where
  pub number : scan.number ≡ counted_on tracer.scans
  pub ms : scan.ms ≡ seen.record.ms
  pub changed : scan.is_changed ≡ tracer.is_changed
  pub outputs : scan.outputs ≡ seen.record.outputs
  pub lines_are : scan.lines.now ≡ lines

-- it has put a scan whose items it looked at, and no other
abbrev pub PutsItems : Tracer → Tracer → MachineState → ScanSeen → Option (List SeenLine) → List ℕ → List ℕ → Type 0
PutsItems old new machine seen None before after = (new.shown ≡ old.shown) × (after ≡ before)
PutsItems old new machine seen (Some lines) before after =
    (new.shown ≡ counted_on old.shown) × ((scan : ShownScan) × IsShownAs old seen lines scan × PutsScan old.format old.legend machine scan before after)

-- what it has put of a row with a scan or with none, by a machine or by none
abbrev pub Follows : Tracer → Tracer → Option MachineState → Option ScanSeen → List ℕ → Type 0
Follows old new machine None text = CountsAs old new × (text ≡ [])
Follows old new None (Some seen) text = ⊤
Follows old new (Some machine) (Some seen) text = (new.scans ≡ counted_on old.scans) × PutsItems old new machine seen (items_of seen) [] text

-- the legend is that of the text that runs, by its bytes
abbrev pub FitsRunning : Option Legend → Option (List ℕ) → Option Logic → Type 0
FitsRunning None None logic = ⊤
FitsRunning None (Some bytes) logic = ⊥
FitsRunning (Some legend) None logic = ⊥
FitsRunning (Some legend) (Some bytes) None = ⊤
FitsRunning (Some legend) (Some bytes) (Some logic) = IsLegendOf legend bytes logic.text

-- a legend is that of a program that is loaded, if there is one
abbrev pub IsLegendFor : Option Legend → Option Program → Type 0
IsLegendFor None None = ⊤
IsLegendFor None (Some program) = ⊥
IsLegendFor (Some legend) None = ⊥
IsLegendFor (Some legend) (Some program) = IsLegendOf legend program.text.now (text_view program.loaded.now.source)

-- and so of the next one
abbrev pub FitsNext : Option Legend → Option (List ℕ) → Option Logic → Type 0
FitsNext None None logic = ⊤
FitsNext None (Some bytes) logic = ⊥
FitsNext (Some legend) None logic = ⊥
FitsNext (Some legend) (Some bytes) None = ⊤
FitsNext (Some legend) (Some bytes) (Some logic) = (text : Text) × (logic.next ≡ Some text) × IsLegendOf legend bytes text

-- after these rows it has the legends of the texts, has counted the scans, and what its writer has taken is what is written of them
pub record IsTracing (t : Tracing) (tracer : Tracer) (start : Start) (taken : Option (List ℕ)) (plate : PlateData) (logic : Option Logic) (past : Past) : Type 0 where
  pub running : FitsRunning tracer.legend (texts_after start past).running (logic_after plate logic past)
  pub next : FitsNext tracer.next (texts_after start past).next (logic_after plate logic past)
  pub changed : tracer.is_changed ≡ is_changed past
  pub counted : tracer.scans ≡ scans_so_far plate logic past
  pub text : List ℕ
  pub rows_are : TracesRows t start plate logic past tracer.shown text
  pub taken_is : Appends start.taken taken text
