-- The bits so far are first, and the rest is as it was.
use Rattle.std.proofs.Common.{◌≡◌, ℕ, ◌*◌, ◌++◌, map, drop}
use Rattle.wc_execution.proofs.image.copy_inputs.Given as goal
use Rattle.wc_execution.specs.Lines.{AreBefore}
use Rattle.wc_model.specs.Definitions.{numbers_below, bit_number, is_bit_set}

abbrev pub invariant-loop-four : goal.invariant-loop-four
invariant-loop-four g l = record {
  written : g.S.Store.numbers l.store ≡ map (λ i. bit_number (is_bit_set l.inputs i)) (numbers_below (4 * l.four)) ++ drop (4 * l.four) (g.S.Store.numbers l.initial.store);
  kinds : g.S.Store.slot_kinds l.store ≡ g.S.Store.slot_kinds l.initial.store;
  moments : (now : ℕ) → AreBefore now (g.S.Store.slot_kinds l.initial.store) (g.S.Store.numbers l.initial.store) → AreBefore now (g.S.Store.slot_kinds l.store) (g.S.Store.numbers l.store);
}
