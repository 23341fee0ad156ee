-- The bits so far, and no higher ones.
use Rattle.wc_model.proofs.Common.{◌≡◌, ℕ, ◌+◌, ◌<◌, ◌*◌, ◌^◌, Some, map, sum, pos, slice_get}
use Rattle.wc_execution.proofs.outputs.bits.Given as goal
use Rattle.wc_model.specs.Language.DirectVariables.{numbers_below}

abbrev pub invariant-loop-bit : goal.invariant-loop-bit
invariant-loop-bit g l = record {
  reported : (on : ℕ → ℕ) → ((i : ℕ) → i < 16 → slice_get (g.S.Store.numbers l.store) (25 + i) ≡ Some (pos (on i))) → l.bits ≡ sum (map (λ i. 2 ^ i * on i) (numbers_below l.bit));
  small : l.bits < 2 ^ l.bit;
}
