-- The rows of the items of a scan, one after another.
use Rattle.wc_model.proofs.Common.{◌≡◌, ◌∙◌, ℕ, ◌+◌, ◌<◌, ◌≤◌, List, [], ◌∷◌, ◌++◌, get_or, length, take, refl, sym, ap, subst, flat_map}
use Rattle.std.proofs.lemmas.List.{append-nil, append_assoc, flat_map_more, take_all, take_more}
use Rattle.wc_machine.specs.Machines.{MachineState, text_of}
use Rattle.wc_machine.specs.declared.seen.SeenLine.{SeenLine}
use Rattle.wc_model.specs.Language.Paths.{IsProgramBound}
use Rattle.wc_view_trace_rows.proofs.Joins.{three_parts}
use Rattle.wc_view_trace_rows.specs.{AreLastCalls, levels_after, levels_view, row_of, AreItems, AreItemsFrom, AreRows, IsItem, PutsScan, heading, steps_line}
use Rattle.wc_view_trace_rows.specs.declared.item.Item.{Item}
use Rattle.wc_view_trace_rows.specs.declared.items.Items.{Items}
use Rattle.wc_view_trace_rows.specs.declared.items.LastCalls.{LastCalls}
use Rattle.wc_view_trace_rows.specs.declared.legend.Legend.{Legend}
use Rattle.wc_view_trace_rows.specs.declared.shown_scan.ShownScan.{ShownScan}

-- what each of the items so far adds is put, and whatever items follow go on from there
pub record SoFar {X : Type 0} (adds : Item → List X) (legend : Legend) (machine : MachineState) (lines : List SeenLine) (index : ℕ)
    (items : Items) (old new : List X) : Type 0 where
  pub done : List Item
  pub on : (rest : List SeenLine) (more : List Item) → AreItemsFrom legend machine lines index (levels_view items.levels) rest more
      → AreItemsFrom legend machine lines 0 [] (take index lines ++ rest) (done ++ more)
  pub put : new ≡ old ++ flat_map adds done
  pub calls : AreLastCalls items.calls.items.items (length legend.kinds.items) lines

module _ {X : Type 0} (adds : Item → List X) (legend : Legend) (machine : MachineState) (lines : List SeenLine) where
  pub none_yet : (items : Items) (old : List X) → levels_view items.levels ≡ [] → AreLastCalls items.calls.items.items (length legend.kinds.items) lines
      → SoFar adds legend machine lines 0 items old old
  none_yet items old is calls = record {
    done = [];
    on = λ rest more are. subst (λ l. AreItemsFrom legend machine lines 0 l rest more) is are;
    put = sym (append-nil old);
    calls = calls;
  }

  pub one_more_item : (index : ℕ) (items next : Items) (old text new : List X) (other : SeenLine) (item : Item) → index < length lines
      → levels_view next.levels ≡ levels_after legend (get_or lines index other) (levels_view items.levels) → next.calls ≡ items.calls → new ≡ text ++ adds item
      → ((all : List SeenLine) → AreLastCalls items.calls.items.items (length legend.kinds.items) all
      → IsItem legend machine all (index + 1) (get_or lines index other) (levels_view items.levels) item)
      → SoFar adds legend machine lines index items old text → SoFar adds legend machine lines (index + 1) next old new
  one_more_item index items next old text new other item below is same put one h =
      let seen = get_or lines index other in
      record {
        done = h.done ++ item ∷ [];
        on = λ rest more are.
            rw (take_more lines index other below, append_assoc (take index lines) (seen ∷ []) rest, append_assoc h.done (item ∷ []) more)
            (h.on (seen ∷ rest) (item ∷ more) (one lines h.calls, subst (λ l. AreItemsFrom legend machine lines (index + 1) l rest more) is are));
        put = put ∙ ap (λ l. l ++ adds item) h.put ∙ flat_map_more adds old h.done item;
        calls = subst (λ (calls : LastCalls). AreLastCalls calls.items.items (length legend.kinds.items) lines) (sym same) h.calls;
      }

  pub all_items : (index : ℕ) (items : Items) (old new : List X) → length lines ≤ index → SoFar adds legend machine lines index items old new
      → (done : List Item) × AreItems legend machine lines done × (new ≡ old ++ flat_map adds done)
  all_items index items old new past h =
      let all : take index lines ++ [] ≡ lines = append-nil (take index lines) ∙ take_all index lines past in
      (h.done, subst (λ l. AreItemsFrom legend machine lines 0 [] l h.done) all (rw (append-nil h.done) at (h.on [] [] tt)), h.put)

-- the heading, the rows, and the steps
pub scan_put : (legend : Legend) (machine : MachineState) (scan : ShownScan) (old first second new : List ℕ) (steps bound : ℕ)
    → first ≡ old ++ heading scan.number scan.ms scan.is_changed → AreRows legend machine scan.lines.now first second → steps ≡ length scan.lines.now → IsProgramBound (text_of machine) bound
    → new ≡ second ++ steps_line steps bound → PutsScan legend machine scan old new
scan_put legend machine scan old first second new steps bound one (items, are, two) count bounds three =
    let rows = flat_map (row_of legend) items in (
      heading scan.number scan.ms scan.is_changed ++ (rows ++ steps_line (length scan.lines.now) bound),
      record { items = items; are = are; bound = bound; bounds = bounds; is = refl },
      three_parts old (heading scan.number scan.ms scan.is_changed) rows (steps_line (length scan.lines.now) bound) first second new one two
          (three ∙ ap (λ n. second ++ steps_line n bound) count),
    )
