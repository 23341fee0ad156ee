-- What a row adds to what was traced so far.
use Rattle.std.proofs.Common.{inl, inr, ◌≡◌, refl, ap, sym, subst, ◌∙◌, ℕ, Bool, true, false, List, [], ◌∷◌, ◌++◌, Option, Some, None, Result, Ok, Err, OnOk}
use Rattle.wc_model.proofs.Common.{Appends-trans, Appends-nil, filter-append, Appends}
use Rattle.std.specs.Prelude.{IfSome, filter, is_some, option_map}
use Rattle.wc_machine.specs.Machines.{MachineState, RepresentsText}
use Rattle.wc_machine.specs.declared.seen.SeenLine.{SeenLine}
use Rattle.wc_model.specs.Definitions.{PlateData, Text, text_view, LogRefusal, Bytes, Change, Counts, Inputs, LogRow, Past, RowData, Scan, answer_of_row, Logic, change_to, logic_following, programs, ReportLine, ScanLine, answer_line, is_scan_line, state_with}
use Rattle.wc_run.specs.{IsRunning, Writes, logic_after, AreItems, IsLookedAt, IsShown, Start, bytes_of, items_of, lines_of_scan, loaded_of, logic_of, onto, refusal_of, row_of, start_of, line_of_record, Represents, program_of}
use Rattle.wc_run.proofs.Lines.{answer_dropped}
use Rattle.wc_run.specs.declared.fault.RunFault.{RunFault}
use Rattle.wc_run.specs.declared.program.Program.{Program}
use Rattle.wc_run.specs.declared.row_seen.RowSeen.{RowSeen}
use Rattle.wc_run.specs.declared.row_seen.ScanSeen.{ScanSeen}
use Rattle.wc_run.specs.declared.log_scale.LogScale.{LogScale}
use Rattle.wc_view_trace.specs.Traces.{IsChosen, HasTraced, IsEndOf, IsScanIn, IsShownScan, ShowsScan, Texts, TracesEnd, TracesRow, TracesScans, Tracing, counted_on, counted_with, is_changed, is_changed_with, scans_of_row, scans_so_far, texts_after, texts_with}
use Rattle.wc_view_trace.specs.Tracers.{FitsNext, FitsRunning, Follows, IsFresh, IsLegendFor, IsSame, IsShownAs, IsTracing, Looks, PutsItems, PutsScan, ShowsAs, Turns, tracing_of}
use Rattle.wc_view_trace.specs.declared.tracing.TraceFormat.{TraceFormat}
use Rattle.wc_view_trace.specs.declared.tracing.TraceFormat.TheVariants as format
use Rattle.wc_view_trace.specs.declared.tracer.Tracer.{Tracer}
use Rattle.wc_view_trace_rows.specs.Legends.{IsLegendOf}
use Rattle.wc_view_trace_rows.specs.declared.legend.Legend.{Legend}
use Rattle.wc_view_trace_rows.specs.declared.shown_scan.ShownScan.{ShownScan}

-- it was asked for the same
pub same_tracing : (old new : Tracer) → IsSame old new → tracing_of new ≡ tracing_of old
same_tracing old new same = λ i. record { chosen = same.chosen i; format = same.format i }

-- there is as much of what is made of something
some_mapped : {A B : Type 0} (f : A → B) (one : Option A) → is_some (option_map f one) ≡ is_some one
some_mapped f None = refl
some_mapped f (Some a) = refl

-- what was written of a text that was not cut short
pub all_written : {X : Type 0} (text : List ℕ) (answer : Result X RunFault) (old new : Option (List ℕ)) → Writes text answer old new → OnOk answer (Appends old new text)
all_written text (Ok x) old new writes = writes
all_written text (Err fault) old new writes = tt

-- the legends before the first row
pub at_first : (t : Tracing) (tracer : Tracer) (first next : Option Program) (taken : Option (List ℕ)) (plate : PlateData) → IsLegendFor tracer.legend first → IsLegendFor tracer.next next
    → IsFresh tracer → IsTracing t tracer (start_of first next taken) taken plate (logic_of (loaded_of first) (loaded_of next)) []
at_first t tracer first next taken plate legend later fresh = record {
  running = running tracer.legend first legend;
  next = following tracer.next first next later;
  changed = fresh.unchanged;
  counted = fresh.scans;
  text = [];
  rows_are = (fresh.shown, refl);
  taken_is = Appends-nil taken;
} where
  running : (one : Option Legend) (program : Option Program) → IsLegendFor one program → FitsRunning one (bytes_of program) (logic_after plate (logic_of (loaded_of program) (loaded_of next)) [])
  running None None h = tt
  running None (Some program) h = absurd h
  running (Some legend) None h = absurd h
  running (Some legend) (Some program) h = h

  following : (one : Option Legend) (program other : Option Program) → IsLegendFor one other → FitsNext one (bytes_of other) (logic_after plate (logic_of (loaded_of program) (loaded_of other)) [])
  following None program None h = tt
  following None program (Some other) h = absurd h
  following (Some legend) program None h = absurd h
  following (Some legend) None (Some other) h = tt
  following (Some legend) (Some program) (Some other) h = (text_view other.loaded.now.source, refl, h)

-- a legend fits by the text alone
same_text : (legend : Option Legend) (bytes : Option (List ℕ)) (one other : Logic) → one.text ≡ other.text → FitsRunning legend bytes (Some one) → FitsRunning legend bytes (Some other)
same_text None None one other is h = tt
same_text None (Some bytes) one other is h = absurd h
same_text (Some legend) None one other is h = absurd h
same_text (Some legend) (Some bytes) one other is h = subst (λ text. IsLegendOf legend bytes text) is h

same_next : (legend : Option Legend) (bytes : Option (List ℕ)) (one other : Logic) → one.next ≡ other.next → FitsNext legend bytes (Some one) → FitsNext legend bytes (Some other)
same_next None None one other is h = tt
same_next None (Some bytes) one other is h = absurd h
same_next (Some legend) None one other is h = absurd h
same_next (Some legend) (Some bytes) one other is h = (h.0, sym is ∙ h.1, h.2)

-- at a change the next legend fits the text that runs then
changed_to : (legend : Option Legend) (bytes : Option (List ℕ)) (state : Logic) → FitsNext legend bytes (Some state) → FitsRunning legend bytes (Some (change_to state state.next))
changed_to None None state h = tt
changed_to None (Some bytes) state h = absurd h
changed_to (Some legend) None state h = absurd h
changed_to (Some legend) (Some bytes) state h = subst (λ next. IsLegendOf legend bytes (change_to state next).text) (sym h.1) h.2

changed_alone : (legend : Option Legend) (bytes : Option (List ℕ)) → FitsNext legend bytes None → FitsRunning legend bytes None
changed_alone None None h = tt
changed_alone None (Some bytes) h = absurd h
changed_alone (Some legend) None h = absurd h
changed_alone (Some legend) (Some bytes) h = tt

-- the legends after a row
module _ (old new : Tracer) (texts : Texts) where
  abbrev Fits : Option Logic → Type 0
  Fits logic = FitsRunning old.legend texts.running logic × FitsNext old.next texts.next logic

  abbrev FitsAfter : RowData → Option Logic → Type 0
  FitsAfter brings logic = FitsRunning new.legend (texts_with brings texts).running logic × FitsNext new.next (texts_with brings texts).next logic

  fits_still : (logic : Option Logic) → ShowsAs old new → Fits logic → FitsRunning new.legend texts.running logic × FitsNext new.next texts.next logic
  fits_still logic shows h =
      (subst (λ legend. FitsRunning legend texts.running logic) (sym shows.legend) h.0, subst (λ legend. FitsNext legend texts.next logic) (sym shows.next) h.1)

  fits_alone : (brings : RowData) → Turns brings old new → Fits None → FitsAfter brings None
  fits_alone (Counts counts) turns h = fits_still None turns h
  fits_alone (Bytes bytes) turns h = fits_still None turns h
  fits_alone (Inputs inputs) turns h = fits_still None turns h
  fits_alone Scan turns h = fits_still None turns h
  fits_alone Change turns h =
      (subst (λ legend. FitsRunning legend texts.next None) (sym turns.0) (changed_alone old.next texts.next h.1), subst (λ legend. FitsNext legend None None) (sym turns.1) tt)

  fits_program : (plate : PlateData) (ms : ℕ) (past : Past) (state : Logic) (brings : RowData) → Turns brings old new → Fits (Some state)
      → FitsAfter brings (Some (state_with plate programs brings ms past state))
  fits_program plate ms past state (Counts counts) turns h = fits_still (Some state) turns h
  fits_program plate ms past state (Bytes bytes) turns h = fits_still (Some state) turns h
  fits_program plate ms past state (Inputs inputs) turns h = fits_still (Some state) turns h
  fits_program plate ms past state Scan turns h =
      let left : Logic = state_with plate programs Scan ms past state in
      fits_still (Some left) turns (same_text old.legend texts.running state left refl h.0, same_next old.next texts.next state left refl h.1)
  fits_program plate ms past state Change turns h =
      let left : Logic = state_with plate programs Change ms past state in
      (subst (λ legend. FitsRunning legend texts.next (Some left)) (sym turns.0) (changed_to old.next texts.next state h.1), subst (λ legend. FitsNext legend None (Some left)) (sym turns.1) tt)

  turned : (brings : RowData) (before : Bool) → Turns brings old new → old.is_changed ≡ before → new.is_changed ≡ is_changed_with brings before
  turned (Counts counts) before turns is = turns.changed ∙ is
  turned (Bytes bytes) before turns is = turns.changed ∙ is
  turned (Inputs inputs) before turns is = turns.changed ∙ is
  turned Scan before turns is = turns.changed ∙ is
  turned Change before turns is = turns.2

-- the legends fit the logic after the row
pub fits_after : (old new : Tracer) (start : Start) (plate : PlateData) (logic : Option Logic) (past : Past) (row : LogRow) → Turns row.brings old new
    → FitsRunning old.legend (texts_after start past).running (logic_after plate logic past) × FitsNext old.next (texts_after start past).next (logic_after plate logic past)
    → FitsRunning new.legend (texts_after start (row ∷ past)).running (logic_after plate logic (row ∷ past))
    × FitsNext new.next (texts_after start (row ∷ past)).next (logic_after plate logic (row ∷ past))
fits_after old new start plate None past row turns h = fits_alone old new (texts_after start past) row.brings turns h
fits_after old new start plate (Some logic) past row turns h =
    fits_program old new (texts_after start past) plate row.ms past (logic_following plate logic past) row.brings turns h

-- the scans that the report has of a row are those that are seen
module _ (plate : PlateData) (logic : Option Logic) (past : Past) (seen : RowSeen) (shown : IsShown seen plate logic past) where
  scans_seen : scans_of_row plate logic past (row_of seen) ≡ filter is_scan_line (lines_of_scan seen.scan)
  scans_seen =
      ap (filter is_scan_line) shown.lines ∙ filter-append is_scan_line (answer_line seen.row.ms seen.answer.now) (lines_of_scan seen.scan)
      ∙ ap (λ lines. lines ++ filter is_scan_line (lines_of_scan seen.scan)) (answer_dropped seen.row.ms seen.answer.now)

  pub no_scan : seen.scan ≡ None → scans_of_row plate logic past (row_of seen) ≡ []
  no_scan is = scans_seen ∙ ap (λ scan. filter is_scan_line (lines_of_scan scan)) is

  pub one_scan : (scan : ScanSeen) → seen.scan ≡ Some scan → scans_of_row plate logic past (row_of seen) ≡ line_of_record scan.record ∷ []
  one_scan scan is = scans_seen ∙ ap (λ one. filter is_scan_line (lines_of_scan one)) is

-- with no program the report has none
none_alone : (plate : PlateData) (past : Past) (row : LogRow) → scans_of_row plate None past row ≡ []
none_alone plate past row = answer_dropped row.ms (answer_of_row plate past row)

-- a row of which nothing is shown
nothing_shown : (t : Tracing) (start : Start) (plate : PlateData) (logic : Option Logic) (past : Past) (row : LogRow) (line : ReportLine) (before after : ℕ) (text : List ℕ)
    → (IsChosen t.chosen (counted_on (scans_so_far plate logic past)) row.ms → ⊥) → after ≡ before → text ≡ []
    → TracesScans t start plate logic past row (line ∷ []) before after text
nothing_shown t start plate logic past row line before after text not same none = inr (not, same, none)

-- what is put of a scan in a format
put_in : (one : TraceFormat) (legend : Legend) (machine : MachineState) (scan : ShownScan) (text : List ℕ) → PutsScan one (Some legend) machine scan [] text → IsScanIn one legend machine scan text
put_in format.Text legend machine scan text puts = subst (λ all. IsScanIn format.Text legend machine scan all) (sym puts.2) puts.1
put_in format.Json legend machine scan text puts = subst (λ all. IsScanIn format.Json legend machine scan all) (sym puts.2) puts.1

-- with no legend nothing is put
put_none : (one : TraceFormat) (machine : MachineState) (scan : ShownScan) (text : List ℕ) → PutsScan one None machine scan [] text → text ≡ []
put_none format.Text machine scan text puts = puts
put_none format.Json machine scan text puts = puts

module _ (t : Tracing) (start : Start) (plate : PlateData) (first : Logic) (past : Past) (seen : RowSeen) (shown : IsShown seen plate (Some first) past) (scan : ScanSeen) (is : seen.scan ≡ Some scan)
    (machine : MachineState) (represents : RepresentsText machine (logic_following plate first (row_of seen ∷ past)).text (logic_following plate first (row_of seen ∷ past)).store) where
  abbrev after : Logic
  after = logic_following plate first (row_of seen ∷ past)

  abbrev number : ℕ
  number = counted_on (scans_so_far plate (Some first) past)

  -- what is shown of a scan
  is_shown_scan : (old : Tracer) (lines : List SeenLine) (one : ShownScan) → old.scans ≡ scans_so_far plate (Some first) past → old.is_changed ≡ is_changed (row_of seen ∷ past)
      → items_of scan ≡ Some lines → IsShownAs old scan lines one → IsShownScan plate (Some first) past (row_of seen) number (line_of_record scan.record) one
  is_shown_scan old lines one counted changed items as_shown = record {
    number_is = as_shown.number ∙ ap counted_on counted;
    changed_is = as_shown.changed ∙ changed;
    steps = scan.record.steps;
    line_is = λ i. ScanLine (sym as_shown.ms i) scan.record.steps (sym as_shown.outputs i);
    items_are = subst (λ all. AreItems plate (Some first) past (row_of seen) all) (items ∙ ap (λ all. Some all) (sym as_shown.lines_are))
        (subst (λ (seen_scan : Option ScanSeen). IfSome seen_scan (λ done. AreItems plate (Some first) past (row_of seen) (items_of done))) is shown.items);
  }

  shows_of : (old : Tracer) (legend : Option Legend) (bytes : Option (List ℕ)) (lines : List SeenLine) (one : ShownScan) (text : List ℕ) → t.format ≡ old.format
      → FitsRunning legend bytes (Some after) → old.scans ≡ scans_so_far plate (Some first) past → old.is_changed ≡ is_changed (row_of seen ∷ past)
      → items_of scan ≡ Some lines → IsShownAs old scan lines one → PutsScan t.format legend machine one [] text
      → ShowsScan t plate (Some first) past (row_of seen) number (line_of_record scan.record) bytes text
  shows_of old None None lines one text same fits counted changed items as_shown puts = put_none t.format machine one text puts
  shows_of old None (Some bytes) lines one text same fits counted changed items as_shown puts = absurd fits
  shows_of old (Some legend) None lines one text same fits counted changed items as_shown puts = absurd fits
  shows_of old (Some legend) (Some bytes) lines one text same fits counted changed items as_shown puts = record {
    legend = legend;
    legend_is = fits;
    machine = machine;
    represents = represents;
    scan = one;
    scan_is = is_shown_scan old lines one counted changed items as_shown;
    text_is = put_in t.format legend machine one text puts;
  }

  -- a scan that is seen, looked at or not
  pub traces_scan : (old new : Tracer) (looked : Bool) (text : List ℕ) → tracing_of old ≡ t → FitsRunning old.legend (texts_after start (row_of seen ∷ past)).running (Some after)
      → old.scans ≡ scans_so_far plate (Some first) past → old.is_changed ≡ is_changed (row_of seen ∷ past) → Looks old seen.row.ms looked → is_some (items_of scan) ≡ looked
      → PutsItems old new machine scan (items_of scan) [] text
      → TracesScans t start plate (Some first) past (row_of seen) (line_of_record scan.record ∷ []) old.shown new.shown text
  traces_scan old new looked text same fits counted changed looks is_looked puts = by (items_of scan) refl is_looked puts where
    chosen_by : IsChosen old.chosen (counted_on old.scans) seen.row.ms → IsChosen t.chosen number seen.row.ms
    chosen_by is = subst (λ n. IsChosen t.chosen (counted_on n) seen.row.ms) counted (subst (λ (one : Tracing). IsChosen one.chosen (counted_on old.scans) seen.row.ms) same is)

    chosen_of : IsChosen t.chosen number seen.row.ms → IsChosen old.chosen (counted_on old.scans) seen.row.ms
    chosen_of is =
        subst (λ (one : Tracing). IsChosen one.chosen (counted_on old.scans) seen.row.ms) (sym same) (subst (λ n. IsChosen t.chosen (counted_on n) seen.row.ms) (sym counted) is)

    by : (items : Option (List SeenLine)) → items_of scan ≡ items → is_some items ≡ looked → PutsItems old new machine scan items [] text
        → TracesScans t start plate (Some first) past (row_of seen) (line_of_record scan.record ∷ []) old.shown new.shown text
    by None items at put = inr ((λ chosen. looks.1 (sym at) (chosen_of chosen)), put.0, put.1)
    by (Some lines) items at put =
        inl (
          chosen_by (looks.0 (sym at)),
          put.0,
          shows_of old old.legend (texts_after start (row_of seen ∷ past)).running lines put.1.0 text (ap (λ one. one.format) (sym same)) fits counted changed items put.1.1
              (subst (λ one. PutsScan one old.legend machine put.1.0 [] text) (ap (λ one. one.format) same) put.1.2),
        )

-- the machine of a scale runs the logic after the rows
pub runs_logic : {S : Type 0} (scale : LogScale S) (plate : PlateData) (logic : Option Logic) (past : Past) → Represents scale plate logic past
    → IsRunning scale.opened.machine (program_of (logic_after plate logic past))
runs_logic scale plate logic past represents = represents.opened.program

-- one row more
pub traced_on : (old mid new : Tracer) (start : Start) (taken now : Option (List ℕ)) (plate : PlateData) (logic : Option Logic) (past : Past) (seen : RowSeen) (machine : Option MachineState)
    (looked : Bool) (text : List ℕ) → IsTracing (tracing_of old) old start taken plate logic past → IsSame old mid → IsSame mid new → mid.scans ≡ old.scans → mid.shown ≡ old.shown
    → Turns (row_of seen).brings old mid → ShowsAs mid new → Follows mid new machine seen.scan text → Looks old seen.row.ms looked → IsLookedAt seen.scan looked → IsShown seen plate logic past
    → IsRunning machine (program_of (logic_after plate logic (row_of seen ∷ past))) → Appends taken now text
    → IsTracing (tracing_of new) new start now plate logic (row_of seen ∷ past)
traced_on old mid new start taken now plate logic past seen machine looked text h same_mid same_new scans shown_is turns shows follows looks looked_at shown runs appends =
    subst (λ t. IsTracing t new start now plate logic (row_of seen ∷ past)) (sym (same_tracing mid new same_new ∙ same_tracing old mid same_mid)) whole where
      t : Tracing
      t = tracing_of old

      fits : FitsRunning mid.legend (texts_after start (row_of seen ∷ past)).running (logic_after plate logic (row_of seen ∷ past))
          × FitsNext mid.next (texts_after start (row_of seen ∷ past)).next (logic_after plate logic (row_of seen ∷ past))
      fits = fits_after old mid start plate logic past (row_of seen) turns (h.running, h.next)

      changed : mid.is_changed ≡ is_changed (row_of seen ∷ past)
      changed = turned old mid (texts_after start past) (row_of seen).brings (is_changed past) turns h.changed

      looks_mid : Looks mid seen.row.ms looked
      looks_mid = (
        λ at. subst (λ n. IsChosen mid.chosen (counted_on n) seen.row.ms) (sym scans) (subst (λ one. IsChosen one (counted_on old.scans) seen.row.ms) (sym same_mid.chosen) (looks.0 at)),
        λ at is. looks.1 at (subst (λ one. IsChosen one (counted_on old.scans) seen.row.ms) same_mid.chosen (subst (λ n. IsChosen mid.chosen (counted_on n) seen.row.ms) scans is)),
      )

      -- what the row adds to the counts and the text
      Adds : Type 0
      Adds = (new.scans ≡ counted_with (scans_of_row plate logic past (row_of seen)) (scans_so_far plate logic past)) × TracesRow t start plate logic past (row_of seen) old.shown new.shown text

      without : seen.scan ≡ None → Follows mid new machine None text → Adds
      without is put = (
        put.0.scans ∙ scans ∙ h.counted ∙ ap (λ lines. counted_with lines (scans_so_far plate logic past)) (sym (no_scan plate logic past seen shown is)),
        subst (λ lines. TracesScans t start plate logic past (row_of seen) lines old.shown new.shown text) (sym (no_scan plate logic past seen shown is)) (put.0.shown ∙ shown_is, put.1),
      )

      with_program : (scan : ScanSeen) (one : MachineState) → seen.scan ≡ Some scan → (other : Option Logic) → logic ≡ other
          → IsRunning (Some one) (program_of (logic_after plate other (row_of seen ∷ past))) → (mid.scans ≡ scans_so_far plate other past)
          → IsShown seen plate other past → is_some (items_of scan) ≡ looked → PutsItems mid new one scan (items_of scan) [] text
          → FitsRunning mid.legend (texts_after start (row_of seen ∷ past)).running (logic_after plate other (row_of seen ∷ past))
          → TracesScans t start plate other past (row_of seen) (line_of_record scan.record ∷ []) mid.shown new.shown text
      with_program scan one is None same run counted all looked_items put fit = absurd run
      with_program scan one is (Some first) same run counted all looked_items put fit =
          traces_scan t start plate first past seen all scan is one run mid new looked text (same_tracing old mid same_mid) fit counted changed looks_mid looked_items put

      with_scan : (scan : ScanSeen) → seen.scan ≡ Some scan → (one : Option MachineState) → IsRunning one (program_of (logic_after plate logic (row_of seen ∷ past)))
          → IsLookedAt (Some scan) looked → Follows mid new one (Some scan) text → Adds
      with_scan scan is None run at put = absurd (no_machine logic refl run) where
        no_machine : (other : Option Logic) → logic ≡ other → IsRunning None (program_of (logic_after plate other (row_of seen ∷ past))) → ⊥
        no_machine None same run = absurd (cc (sym (one_scan plate logic past seen shown scan is) ∙ ap (λ l. scans_of_row plate l past (row_of seen)) same ∙ none_alone plate past (row_of seen)))
        no_machine (Some first) same run = run
      with_scan scan is (Some one) run at put = (
        put.0 ∙ ap counted_on (scans ∙ h.counted) ∙ ap (λ lines. counted_with lines (scans_so_far plate logic past)) (sym (one_scan plate logic past seen shown scan is)),
        subst (λ lines. TracesScans t start plate logic past (row_of seen) lines old.shown new.shown text) (sym (one_scan plate logic past seen shown scan is))
            (subst (λ before. TracesScans t start plate logic past (row_of seen) (line_of_record scan.record ∷ []) before new.shown text) shown_is
            (with_program scan one is logic refl run (scans ∙ h.counted) shown (some_mapped (λ lines. lines.items) scan.lines ∙ at) put.1 fits.0)),
      )

      adds : Adds
      adds = by seen.scan refl follows looked_at where
        by : (scan : Option ScanSeen) → seen.scan ≡ scan → Follows mid new machine scan text → IsLookedAt scan looked → Adds
        by None is put at = without is put
        by (Some scan) is put at = with_scan scan is machine runs at put

      whole : IsTracing t new start now plate logic (row_of seen ∷ past)
      whole = record {
        running = subst (λ legend. FitsRunning legend (texts_after start (row_of seen ∷ past)).running (logic_after plate logic (row_of seen ∷ past))) (sym shows.legend) fits.0;
        next = subst (λ legend. FitsNext legend (texts_after start (row_of seen ∷ past)).next (logic_after plate logic (row_of seen ∷ past))) (sym shows.next) fits.1;
        changed = shows.changed ∙ changed;
        counted = adds.0;
        text = h.text ++ text;
        rows_are = (old.shown, h.text, text, h.rows_are, adds.1, refl);
        taken_is = Appends-trans start.taken taken now h.text text h.taken_is appends;
      }

-- the end of a run: after a refused row nothing is said
pub end_refused : (one : TraceFormat) (scans shown : ℕ) (refused : Option (ℕ × ℕ)) → is_some refused ≡ true → TracesEnd one scans shown (refusal_of refused) []
end_refused one scans shown None is = absurd (cc (is))
end_refused one scans shown (Some refusal) is = refl

pub end_said : (one : TraceFormat) (scans shown : ℕ) (refused : Option (ℕ × ℕ)) (text : List ℕ) → is_some refused ≡ false → IsEndOf one scans shown text
    → TracesEnd one scans shown (refusal_of refused) text
end_said one scans shown None text is says = says
end_said one scans shown (Some refusal) text is says = absurd (cc (is))

-- so what was written is the trace
pub traced_all : (tracer : Tracer) (start : Start) (taken now : Option (List ℕ)) (plate : PlateData) (logic : Option Logic) (past : Past) (refusal : Option LogRefusal) (text : List ℕ)
    → IsTracing (tracing_of tracer) tracer start taken plate logic past → TracesEnd tracer.format tracer.scans tracer.shown refusal text → Appends taken now text
    → HasTraced (tracing_of tracer) start now plate logic (onto past []) refusal
traced_all tracer start taken now plate logic past refusal text h end appends = (
  past,
  refl,
  h.text ++ text,
  record {
    shown = tracer.shown;
    of_rows = h.text;
    of_end = text;
    rows_are = h.rows_are;
    end_is = subst (λ scans. TracesEnd tracer.format scans tracer.shown refusal text) h.counted end;
    text_is = refl;
  },
  Appends-trans start.taken taken now h.text text h.taken_is appends,
)
