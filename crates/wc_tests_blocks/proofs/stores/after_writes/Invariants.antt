-- A write leaves the kinds.
use Rattle.std.proofs.Common.{◌≡◌}
use Rattle.wc_tests_blocks.proofs.stores.after_writes.Given as goal

abbrev pub invariant-loop-step : goal.invariant-loop-step
invariant-loop-step g l = g.S.Store.slot_kinds l.store ≡ l.kinds
