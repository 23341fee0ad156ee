-- The weights so far follow what was before them, and the rest is as it was.
use Rattle.wc_model.proofs.Common.{◌≡◌, ℕ, ℤ, pos, List, ◌++◌, map, drop, length, slice_index_or}
use Rattle.wc_execution.proofs.image.copy_weights.Given as goal
use Rattle.wc_execution.specs.Lines.{AreBefore}
use Rattle.wc_model.specs.Language.DirectVariables.{numbers_below}

abbrev pub invariant-loop-number : goal.invariant-loop-number
invariant-loop-number g l = record {
  written : (prefix rest : List ℤ) → length prefix ≡ l.first → g.S.Store.numbers l.initial.store ≡ prefix ++ rest →
      g.S.Store.numbers l.store ≡ prefix ++ map (λ i. slice_index_or l.weights i (pos 0)) (numbers_below l.number) ++ drop l.number rest;
  size : length (g.S.Store.numbers l.store) ≡ length (g.S.Store.numbers l.initial.store);
  kinds : g.S.Store.slot_kinds l.store ≡ g.S.Store.slot_kinds l.initial.store;
  moments : (now : ℕ) → AreBefore now (g.S.Store.slot_kinds l.initial.store) (g.S.Store.numbers l.initial.store) → AreBefore now (g.S.Store.slot_kinds l.store) (g.S.Store.numbers l.store);
}
