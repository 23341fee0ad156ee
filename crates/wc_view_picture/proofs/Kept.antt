-- What a picture has seen after one more row.
use Rattle.std.proofs.Common.{◌≡◌, ℕ, Bor, List, [], ◌∷◌, ◌++◌, Option, Result, Ok, Err, length, refl, sym, ap, subst, ◌∙◌}
use Rattle.std.specs.Prelude.{ℤ, ◌<◌, Some, None, OnOk, get_or, is_some, option_map}
use Rattle.wc_indicator.specs.Kept.{IndicatorState, RepresentsHistory}
use Rattle.wc_model.specs.Definitions.{PlateData, History, Past, history_of, line_bytes, Logic, ReportLine, answer_line}
use Rattle.wc_model.specs.Run.ProcessImage.{inputs_of, inputs_with}
use Rattle.wc_model.specs.declared.image.Outputs.{Outputs}
use Rattle.wc_record.specs.Views.{head_data_view}
use Rattle.wc_run.specs.{lines_of_row, logic_after, IsShown, lines_of_scan, row_of}
use Rattle.wc_run.specs.declared.row_seen.RowSeen.{RowSeen}
use Rattle.wc_sma.specs.Feeding.{HasRead}
use Rattle.wc_view_columns.specs.{counted, AreFrom, Row, row_at}
use Rattle.wc_view_columns.specs.Held.{Held, IsStateOf, held_at}
use Rattle.wc_view_columns.specs.declared.line.Column.{Column}
use Rattle.wc_view_picture.specs.declared.view.ScanSteps.{ScanSteps}
use Rattle.wc_view_picture.specs.Seen.{AreNamesOf, AreRowsOf, HasHappened, HasSeen, IsTimeOf, list_of, most_after, numbers_after, most_at, most_of, most_with, outputs_after, outputs_with, replaced_at}
use Rattle.wc_view_picture.specs.declared.picture.Picture.{Picture}
use Rattle.wc_view_watch.specs.Watching.{FitLogic}
use Rattle.wc_view_watch.specs.declared.watched_names.WatchedNames.{WatchedNames}

-- rows without the last one
pub without_last : (ms : ℕ) (rows : List Row) (row : Row) → AreFrom ms (rows ++ row ∷ []) → AreFrom ms rows
without_last ms [] row from = tt
without_last ms (r ∷ rows) row from = (from.0, without_last r.ms rows row from.1)

-- what follows of what holds if nothing fails
pub on_ok : {X E P Q : Type 0} (r : Result X E) → (P → Q) → OnOk r P → OnOk r Q
on_ok (Ok x) f p = f p
on_ok (Err e) f p = tt

-- a program that runs goes on running, with other steps
mapped_twice : (f g : ℕ → ℕ) (most : ℕ) (logic : Option Logic) → option_map f (option_map g (option_map (λ (running : Logic). most) logic)) ≡ option_map (λ (running : Logic). f (g most)) logic
mapped_twice f g most None = refl
mapped_twice f g most (Some logic) = refl

-- a picture has steps exactly if a program runs
pub runs : (steps : Option ScanSteps) (most : ℕ) (logic : Option Logic) → most_of steps ≡ option_map (λ (running : Logic). most) logic → is_some steps ≡ is_some logic
runs None most None e = refl
runs None most (Some logic) e = absurd (cc (e))
runs (Some steps) most None e = absurd (cc (e))
runs (Some steps) most (Some logic) e = refl

-- the names after a row, if there is a list
pub names_turned : (list : Option (Bor (List ℕ))) (old new : WatchedNames) (before after : Option Logic) → ((names : List ℕ) → FitLogic old names before → FitLogic new names after)
    → AreNamesOf (option_map (λ (names : Bor (List ℕ)). names.now) list) old before → AreNamesOf (option_map (λ (names : Bor (List ℕ)). names.now) list) new after
names_turned None old new before after turn are = tt
names_turned (Some names) old new before after turn are = turn names.now are

-- what one more row does to a picture
pub record KeepsRow (old new : Picture) (seen : RowSeen) (plate : PlateData) (logic : Option Logic) (past : Past) (indicator : IndicatorState) (column : Column) (found : List (Option ℤ)) : Type 0 where
  pub inputs : (bytes : List ℕ) → new.inputs ≡ inputs_with (head_data_view bytes seen.row.kind) old.inputs
  pub outputs : (ms : ℕ) (answer : List ℕ) → new.outputs ≡ outputs_with (answer_line ms answer ++ lines_of_scan seen.scan) old.outputs
  pub requests : HasRead new.tracker.requests (line_bytes (row_of seen ∷ past))
  pub running : (ms : ℕ) (answer : List ℕ) → most_of new.running
      ≡ option_map (most_with (answer_line ms answer ++ lines_of_scan seen.scan)) (option_map (most_at (row_of seen).brings) (most_of old.running))
  pub before : most_of new.before ≡ replaced_at (row_of seen).brings (most_of old.running) (most_of old.before)
  pub count : new.rows ≡ counted (length (row_of seen ∷ past))
  pub state : (p : PlateData) (history : History) → RepresentsHistory indicator p history → (numbers : List (Option ℤ)) → ((i : ℕ) → i < 4 → get_or found i None ≡ get_or numbers i None) → IsStateOf (held_at p history new.inputs new.outputs numbers ∷ []) column.state
  pub variables : (i : ℕ) → i < 4 → get_or found i None ≡ get_or (numbers_after (list_of old) plate logic (row_of seen ∷ past)) i None
  pub list : list_of new ≡ list_of old
  pub names : AreNamesOf (list_of old) new.names (logic_after plate logic (row_of seen ∷ past))
  pub happened : HasHappened plate logic past (row_of seen) (row_of seen).brings column.events
  pub line : (rows : List Row) (held : Held) → IsTimeOf rows old.line → IsStateOf (held ∷ []) column.state → IsTimeOf (rows ++ row_at seen.row.ms held column ∷ []) new.line

pub row_seen : (old new : Picture) (seen : RowSeen) (plate : PlateData) (logic : Option Logic) (past : Past) (indicator : IndicatorState) (column : Column) (found : List (Option ℤ)) → IsShown seen plate logic past
    → RepresentsHistory indicator plate (history_of (row_of seen ∷ past)) → HasSeen old plate logic past → KeepsRow old new seen plate logic past indicator column found
    → HasSeen new plate logic (row_of seen ∷ past)
row_seen old new seen plate logic past indicator column found shown represents before keeps =
    let history : History = history_of (row_of seen ∷ past) in
    let inputs : new.inputs ≡ inputs_of (row_of seen ∷ past) = keeps.inputs seen.bytes.now ∙ ap (inputs_with (row_of seen).brings) before.inputs in
    let outputs : new.outputs ≡ outputs_after plate logic (row_of seen ∷ past) =
    keeps.outputs seen.row.ms seen.answer.now ∙ (λ i. outputs_with (sym shown.lines i) (before.outputs i)) in
    let numbers : List (Option ℤ) = numbers_after (list_of old) plate logic (row_of seen ∷ past) in
    let held : Held = held_at plate history (inputs_of (row_of seen ∷ past)) (outputs_after plate logic (row_of seen ∷ past)) numbers in
    let state : IsStateOf (held ∷ []) column.state =
    subst (λ (o : Outputs). IsStateOf (held_at plate history (inputs_of (row_of seen ∷ past)) o numbers ∷ []) column.state) outputs
    (subst (λ (n : ℕ). IsStateOf (held_at plate history n new.outputs numbers ∷ []) column.state) inputs (keeps.state plate history represents numbers keeps.variables)) in
    let rows : List Row = before.line.0 ++ row_at seen.row.ms held column ∷ [] in
    let are : AreRowsOf (list_of old) plate logic (row_of seen ∷ past) rows =
    (before.line.0, (row_at seen.row.ms held column, refl, before.line.1, record { ms = refl; held = refl; events = keeps.happened })) in
    record {
      inputs = inputs;
      outputs = outputs;
      requests = keeps.requests;
      running = keeps.running seen.row.ms seen.answer.now ∙ ap (λ (lines : List ReportLine). option_map (most_with lines) (option_map (most_at (row_of seen).brings) (most_of old.running))) (sym shown.lines)
          ∙ ap (λ (most : Option ℕ). option_map (most_with (lines_of_row plate logic past (row_of seen))) (option_map (most_at (row_of seen).brings) most)) before.running
          ∙ mapped_twice (most_with (lines_of_row plate logic past (row_of seen))) (most_at (row_of seen).brings) (most_after plate logic past) logic;
      before = keeps.before ∙ (λ i. replaced_at (row_of seen).brings (before.running i) (before.before i));
      count = keeps.count;
      names = subst (λ list. AreNamesOf list new.names (logic_after plate logic (row_of seen ∷ past))) (sym keeps.list) keeps.names;
      line = (rows, subst (λ list. AreRowsOf list plate logic (row_of seen ∷ past) rows) (sym keeps.list) are, keeps.line before.line.0 held before.line.2 state);
    }
