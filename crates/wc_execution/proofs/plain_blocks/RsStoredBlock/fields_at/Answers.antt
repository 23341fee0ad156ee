-- The fields are those of the places.
use Rattle.std.proofs.Common.{refl}
use Rattle.wc_execution.proofs.BlockCalls.{rs_is}
use Rattle.wc_execution.proofs.BlockFields.{field_place, field_slot}
use Rattle.wc_execution.proofs.plain_blocks.RsStoredBlock.fields_at.Goals as goal
use Rattle.wc_execution.specs.Lines.{slots_of}
use Rattle.wc_model.specs.declared.block.StandardBlock.TheVariants as blocks
use Rattle.wc_model.specs.declared.kind.SlotKind.TheVariants as slots

pub truth_at-requires-clause-capacity : goal.truth_at-requires-clause-capacity
truth_at-requires-clause-capacity g c = c.requires.capacity

pub truth_at-requires-clause-kind : goal.truth_at-requires-clause-kind
truth_at-requires-clause-kind g c = c.requires.slots.0

pub overflow_add-at : goal.overflow_add-at
overflow_add-at g c = field_place (slots_of blocks.Rs) (g.S.Store.slot_kinds c.args.store.now) c.args.at 1 slots.Bool c.requires.capacity c.requires.slots refl

pub truth_at-requires-2-clause-capacity : goal.truth_at-requires-2-clause-capacity
truth_at-requires-2-clause-capacity g c = c.requires.capacity

pub truth_at-requires-2-clause-kind : goal.truth_at-requires-2-clause-kind
truth_at-requires-2-clause-kind g c = field_slot (slots_of blocks.Rs) (g.S.Store.slot_kinds c.args.store.now) c.args.at 1 slots.Bool c.requires.slots refl

pub overflow_add-at-2 : goal.overflow_add-at-2
overflow_add-at-2 g c = field_place (slots_of blocks.Rs) (g.S.Store.slot_kinds c.args.store.now) c.args.at 2 slots.Bool c.requires.capacity c.requires.slots refl

pub truth_at-requires-3-clause-capacity : goal.truth_at-requires-3-clause-capacity
truth_at-requires-3-clause-capacity g c = c.requires.capacity

pub truth_at-requires-3-clause-kind : goal.truth_at-requires-3-clause-kind
truth_at-requires-3-clause-kind g c = field_slot (slots_of blocks.Rs) (g.S.Store.slot_kinds c.args.store.now) c.args.at 2 slots.Bool c.requires.slots refl

pub returns-clause-called : goal.returns-clause-called
returns-clause-called g c = λ now.
    rs_is (g.S.Store.slot_kinds c.args.store.now) (g.S.Store.numbers c.args.store.now) c.args.at
    (record { s = c.truth_at.result; r1 = c.truth_at-2.result; q1 = c.truth_at-3.result })
    c.truth_at.ensures c.truth_at-2.ensures c.truth_at-3.ensures
