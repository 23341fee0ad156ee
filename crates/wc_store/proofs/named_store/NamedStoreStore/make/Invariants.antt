-- The places so far are numbered from 0 on, with the kinds so far, all 0.
use Rattle.std.proofs.Common.{take}
use Rattle.wc_store.proofs.named_store.NamedStoreStore.make.Given as goal
use Rattle.wc_store.proofs.Numbered.{AreZeros}

abbrev pub invariant-loop-kind : goal.invariant-loop-kind
invariant-loop-kind l = AreZeros (take l.kind-index l.kinds) l.slots.entries
