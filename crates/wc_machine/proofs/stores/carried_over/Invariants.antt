-- The numbers so far, and the first ones after them; no moment is ahead.
use Rattle.std.proofs.Common.{◌≡◌, ℕ}
use Rattle.wc_machine.proofs.Carrying.{AreCarriedTo}
use Rattle.wc_machine.proofs.stores.carried_over.Given as goal
use Rattle.wc_execution.specs.Lines.{AreBefore}
use Rattle.wc_model.specs.Language.Views.{text_view}

abbrev pub invariant-loop-at : goal.invariant-loop-at
invariant-loop-at g l = record {
  carried : AreCarriedTo (text_view l.old.source) (text_view l.loaded.source) (g.S.Store.numbers l.old_store) (g.S.Store.numbers l.initial.store) (g.S.Store.numbers l.store) l.at;
  kinds : g.S.Store.slot_kinds l.store ≡ g.S.Store.slot_kinds l.initial.store;
  moments : (last : ℕ) → AreBefore last (g.S.Store.slot_kinds l.initial.store) (g.S.Store.numbers l.initial.store) → AreBefore last (g.S.Store.slot_kinds l.old_store) (g.S.Store.numbers l.old_store) → AreBefore last (g.S.Store.slot_kinds l.store) (g.S.Store.numbers l.store);
}
