-- The bits so far follow what was before them, and the rest is as it was.
use Rattle.std.proofs.Common.{◌≡◌, ℕ, ℤ, List, ◌++◌, map, drop, length}
use Rattle.wc_execution.proofs.image.copy_bits.Given as goal
use Rattle.wc_execution.specs.Lines.{AreBefore}
use Rattle.wc_model.specs.Definitions.{numbers_below, bit_number, is_bit_set}

abbrev pub invariant-loop-bit : goal.invariant-loop-bit
invariant-loop-bit g l = record {
  written : (prefix rest : List ℤ) → length prefix ≡ l.first → g.S.Store.numbers l.initial.store ≡ prefix ++ rest →
      g.S.Store.numbers l.store ≡ prefix ++ map (λ i. bit_number (is_bit_set l.bits i)) (numbers_below l.bit) ++ drop l.bit rest;
  size : length (g.S.Store.numbers l.store) ≡ length (g.S.Store.numbers l.initial.store);
  kinds : g.S.Store.slot_kinds l.store ≡ g.S.Store.slot_kinds l.initial.store;
  moments : (now : ℕ) → AreBefore now (g.S.Store.slot_kinds l.initial.store) (g.S.Store.numbers l.initial.store) → AreBefore now (g.S.Store.slot_kinds l.store) (g.S.Store.numbers l.store);
}
