-- The fields are those of the places.
use Rattle.std.proofs.Common.{◌≡◌, ◌+◌, Some, to_z, of_z, w32, refl}
use Rattle.wc_text_flat.specs.NumberBlocks.{number_from}
use Rattle.wc_execution.proofs.BlockCalls.{ctu_is}
use Rattle.wc_execution.proofs.BlockFields.{field_place, field_slot, narrow_read}
use Rattle.wc_execution.proofs.plain_blocks.CtuStoredBlock.fields_at.Goals as goal
use Rattle.wc_execution.specs.Lines.{slots_of}
use Rattle.wc_model.specs.declared.block.StandardBlock.TheVariants as blocks
use Rattle.wc_model.specs.declared.kind.SlotKind.TheVariants as slots

pub truth_at-requires-clause-capacity : goal.truth_at-requires-clause-capacity
truth_at-requires-clause-capacity g c = c.requires.capacity

pub truth_at-requires-clause-kind : goal.truth_at-requires-clause-kind
truth_at-requires-clause-kind g c = c.requires.slots.0

pub overflow_add-at : goal.overflow_add-at
overflow_add-at g c = field_place (slots_of blocks.Ctu) (g.S.Store.slot_kinds c.args.store.now) c.args.at 1 slots.Bool c.requires.capacity c.requires.slots refl

pub truth_at-requires-2-clause-capacity : goal.truth_at-requires-2-clause-capacity
truth_at-requires-2-clause-capacity g c = c.requires.capacity

pub truth_at-requires-2-clause-kind : goal.truth_at-requires-2-clause-kind
truth_at-requires-2-clause-kind g c = field_slot (slots_of blocks.Ctu) (g.S.Store.slot_kinds c.args.store.now) c.args.at 1 slots.Bool c.requires.slots refl

pub overflow_add-at-2 : goal.overflow_add-at-2
overflow_add-at-2 g c = field_place (slots_of blocks.Ctu) (g.S.Store.slot_kinds c.args.store.now) c.args.at 2 slots.Dint c.requires.capacity c.requires.slots refl

pub count_at-requires-clause-capacity : goal.count_at-requires-clause-capacity
count_at-requires-clause-capacity g c = c.requires.capacity

pub count_at-requires-clause-kind : goal.count_at-requires-clause-kind
count_at-requires-clause-kind g c = field_slot (slots_of blocks.Ctu) (g.S.Store.slot_kinds c.args.store.now) c.args.at 2 slots.Dint c.requires.slots refl

pub overflow_add-at-3 : goal.overflow_add-at-3
overflow_add-at-3 g c = field_place (slots_of blocks.Ctu) (g.S.Store.slot_kinds c.args.store.now) c.args.at 3 slots.Bool c.requires.capacity c.requires.slots refl

pub truth_at-requires-3-clause-capacity : goal.truth_at-requires-3-clause-capacity
truth_at-requires-3-clause-capacity g c = c.requires.capacity

pub truth_at-requires-3-clause-kind : goal.truth_at-requires-3-clause-kind
truth_at-requires-3-clause-kind g c = field_slot (slots_of blocks.Ctu) (g.S.Store.slot_kinds c.args.store.now) c.args.at 3 slots.Bool c.requires.slots refl

pub overflow_add-at-4 : goal.overflow_add-at-4
overflow_add-at-4 g c = field_place (slots_of blocks.Ctu) (g.S.Store.slot_kinds c.args.store.now) c.args.at 4 slots.Dint c.requires.capacity c.requires.slots refl

pub count_at-requires-2-clause-capacity : goal.count_at-requires-2-clause-capacity
count_at-requires-2-clause-capacity g c = c.requires.capacity

pub count_at-requires-2-clause-kind : goal.count_at-requires-2-clause-kind
count_at-requires-2-clause-kind g c = field_slot (slots_of blocks.Ctu) (g.S.Store.slot_kinds c.args.store.now) c.args.at 4 slots.Dint c.requires.slots refl

pub overflow_add-at-5 : goal.overflow_add-at-5
overflow_add-at-5 g c = field_place (slots_of blocks.Ctu) (g.S.Store.slot_kinds c.args.store.now) c.args.at 5 slots.Bool c.requires.capacity c.requires.slots refl

pub truth_at-requires-4-clause-capacity : goal.truth_at-requires-4-clause-capacity
truth_at-requires-4-clause-capacity g c = c.requires.capacity

pub truth_at-requires-4-clause-kind : goal.truth_at-requires-4-clause-kind
truth_at-requires-4-clause-kind g c = field_slot (slots_of blocks.Ctu) (g.S.Store.slot_kinds c.args.store.now) c.args.at 5 slots.Bool c.requires.slots refl

pub returns-clause-called : goal.returns-clause-called
returns-clause-called g c = λ now.
    let kinds = g.S.Store.slot_kinds c.args.store.now in
    let numbers = g.S.Store.numbers c.args.store.now in
    let pv : number_from slots.Dint kinds numbers (c.args.at + 2) 0 ≡ Some (to_z w32 (of_z w32 c.count_at.result)) = narrow_read slots.Dint kinds numbers (c.args.at + 2) c.count_at.result c.count_at.type_inv c.count_at.ensures in
    let cv : number_from slots.Dint kinds numbers (c.args.at + 4) 0 ≡ Some (to_z w32 (of_z w32 c.count_at-2.result)) = narrow_read slots.Dint kinds numbers (c.args.at + 4) c.count_at-2.result c.count_at-2.type_inv c.count_at-2.ensures in
    ctu_is kinds numbers c.args.at (record { cu = c.truth_at.result; r = c.truth_at-2.result; pv = to_z w32 (of_z w32 c.count_at.result); q = c.truth_at-3.result; cv = to_z w32 (of_z w32 c.count_at-2.result); m = c.truth_at-4.result })
    c.truth_at.ensures c.truth_at-2.ensures pv c.truth_at-3.ensures cv c.truth_at-4.ensures
