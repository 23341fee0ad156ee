-- There are as many numbers as kinds.
use Rattle.std.proofs.Common.{ap, arith, length}
use Rattle.wc_store.proofs.Ranges.{same_length}
use Rattle.wc_store.proofs.slot_store.SlotStoreStore.size.Goals as goal
use Rattle.wc_store.specs.Inside.{SlotNumbers}

pub returns-clause-kinds : goal.returns-clause-kinds
returns-clause-kinds c =
    omega (arith, same_length _ _ c.self.invariant, ap (λ (s : SlotNumbers). length s.kinds) c.self.view_is, c.len.ensures, c.self.inside.numbers.ok)
