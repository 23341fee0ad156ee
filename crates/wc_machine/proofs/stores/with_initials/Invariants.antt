-- The first numbers so far, and the rest as it was.
use Rattle.std.proofs.Common.{◌≡◌, ◌++◌, take, drop}
use Rattle.wc_machine.proofs.stores.with_initials.Given as goal
use Rattle.wc_execution.specs.Lines.{AreBefore}

abbrev pub invariant-loop-at : goal.invariant-loop-at
invariant-loop-at g l = record {
  written : g.S.Store.numbers l.store ≡ take l.at l.initials ++ drop l.at (g.S.Store.numbers l.initial.store);
  kinds : g.S.Store.slot_kinds l.store ≡ g.S.Store.slot_kinds l.initial.store;
  moments : AreBefore 0 (g.S.Store.slot_kinds l.store) (g.S.Store.numbers l.store);
}
