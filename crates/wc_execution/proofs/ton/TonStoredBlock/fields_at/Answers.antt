-- The fields are those of the places.
use Rattle.std.proofs.Common.{◌≡◌, ◌+◌, Some, to_z, of_z, w32, refl}
use Rattle.wc_text_flat.specs.NumberBlocks.{number_from}
use Rattle.wc_execution.proofs.BlockCalls.{ton_is}
use Rattle.wc_execution.proofs.BlockFields.{field_place, field_slot, narrow_read}
use Rattle.wc_execution.proofs.ton.TonStoredBlock.fields_at.Goals as goal
use Rattle.wc_execution.specs.Lines.{slots_of}
use Rattle.wc_model.specs.declared.block.StandardBlock.TheVariants as blocks
use Rattle.wc_model.specs.declared.kind.SlotKind.TheVariants as slots

pub truth_at-requires-clause-capacity : goal.truth_at-requires-clause-capacity
truth_at-requires-clause-capacity g c = c.requires.capacity

pub truth_at-requires-clause-kind : goal.truth_at-requires-clause-kind
truth_at-requires-clause-kind g c = c.requires.slots.0

pub overflow_add-at : goal.overflow_add-at
overflow_add-at g c = field_place (slots_of blocks.Ton) (g.S.Store.slot_kinds c.args.store.now) c.args.at 1 slots.Time c.requires.capacity c.requires.slots refl

pub time_at-requires-clause-capacity : goal.time_at-requires-clause-capacity
time_at-requires-clause-capacity g c = c.requires.capacity

pub time_at-requires-clause-kind : goal.time_at-requires-clause-kind
time_at-requires-clause-kind g c = field_slot (slots_of blocks.Ton) (g.S.Store.slot_kinds c.args.store.now) c.args.at 1 slots.Time c.requires.slots refl

pub overflow_add-at-2 : goal.overflow_add-at-2
overflow_add-at-2 g c = field_place (slots_of blocks.Ton) (g.S.Store.slot_kinds c.args.store.now) c.args.at 2 slots.Bool c.requires.capacity c.requires.slots refl

pub truth_at-requires-2-clause-capacity : goal.truth_at-requires-2-clause-capacity
truth_at-requires-2-clause-capacity g c = c.requires.capacity

pub truth_at-requires-2-clause-kind : goal.truth_at-requires-2-clause-kind
truth_at-requires-2-clause-kind g c = field_slot (slots_of blocks.Ton) (g.S.Store.slot_kinds c.args.store.now) c.args.at 2 slots.Bool c.requires.slots refl

pub overflow_add-at-3 : goal.overflow_add-at-3
overflow_add-at-3 g c = field_place (slots_of blocks.Ton) (g.S.Store.slot_kinds c.args.store.now) c.args.at 3 slots.Time c.requires.capacity c.requires.slots refl

pub time_at-requires-2-clause-capacity : goal.time_at-requires-2-clause-capacity
time_at-requires-2-clause-capacity g c = c.requires.capacity

pub time_at-requires-2-clause-kind : goal.time_at-requires-2-clause-kind
time_at-requires-2-clause-kind g c = field_slot (slots_of blocks.Ton) (g.S.Store.slot_kinds c.args.store.now) c.args.at 3 slots.Time c.requires.slots refl

pub overflow_add-at-4 : goal.overflow_add-at-4
overflow_add-at-4 g c = field_place (slots_of blocks.Ton) (g.S.Store.slot_kinds c.args.store.now) c.args.at 4 slots.Bool c.requires.capacity c.requires.slots refl

pub truth_at-requires-3-clause-capacity : goal.truth_at-requires-3-clause-capacity
truth_at-requires-3-clause-capacity g c = c.requires.capacity

pub truth_at-requires-3-clause-kind : goal.truth_at-requires-3-clause-kind
truth_at-requires-3-clause-kind g c = field_slot (slots_of blocks.Ton) (g.S.Store.slot_kinds c.args.store.now) c.args.at 4 slots.Bool c.requires.slots refl

pub overflow_add-at-5 : goal.overflow_add-at-5
overflow_add-at-5 g c = field_place (slots_of blocks.Ton) (g.S.Store.slot_kinds c.args.store.now) c.args.at 5 slots.Moment c.requires.capacity c.requires.slots refl

pub moment_at-requires-clause-capacity : goal.moment_at-requires-clause-capacity
moment_at-requires-clause-capacity g c = c.requires.capacity

pub moment_at-requires-clause-kind : goal.moment_at-requires-clause-kind
moment_at-requires-clause-kind g c = field_slot (slots_of blocks.Ton) (g.S.Store.slot_kinds c.args.store.now) c.args.at 5 slots.Moment c.requires.slots refl

pub returns-clause-called : goal.returns-clause-called
returns-clause-called g c = λ now.
    let kinds = g.S.Store.slot_kinds c.args.store.now in
    let numbers = g.S.Store.numbers c.args.store.now in
    let pt : number_from slots.Time kinds numbers (c.args.at + 1) 0 ≡ Some (to_z w32 (of_z w32 c.time_at.result)) = narrow_read slots.Time kinds numbers (c.args.at + 1) c.time_at.result c.time_at.type_inv c.time_at.ensures in
    let et : number_from slots.Time kinds numbers (c.args.at + 3) 0 ≡ Some (to_z w32 (of_z w32 c.time_at-2.result)) = narrow_read slots.Time kinds numbers (c.args.at + 3) c.time_at-2.result c.time_at-2.type_inv c.time_at-2.ensures in
    ton_is now kinds numbers c.args.at (record { input = c.truth_at.result; pt = to_z w32 (of_z w32 c.time_at.result); q = c.truth_at-2.result; et = to_z w32 (of_z w32 c.time_at-2.result); run = c.truth_at-3.result; start = c.moment_at.result })
    c.truth_at.ensures pt c.truth_at-2.ensures et c.truth_at-3.ensures c.moment_at.ensures.number

pub returns-clause-start : goal.returns-clause-start
returns-clause-start g c = λ now before. c.moment_at.ensures.before now before
