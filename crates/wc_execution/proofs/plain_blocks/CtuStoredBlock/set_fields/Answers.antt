-- The kinds stay, so each write is to a place of its kind, and keeps that no moment is ahead.
use Rattle.wc_model.proofs.Common.{◌≡◌, ◌+◌, rules, to_z, of_z, w32, refl, ap, ◌∙◌, slice_set, to_z-of_z}
use Rattle.wc_execution.proofs.BlockFields.{capacity_after, field_place, field_slot, three_written, slot_after}
use Rattle.wc_execution.proofs.plain_blocks.CtuStoredBlock.set_fields.Goals as goal
use Rattle.wc_execution.specs.Lines.{slots_of}
use Rattle.wc_model.specs.declared.block.StandardBlock.TheVariants as blocks
use Rattle.wc_model.specs.declared.kind.SlotKind.TheVariants as slots

pub overflow_add-at : goal.overflow_add-at
overflow_add-at g c = field_place (slots_of blocks.Ctu) (g.S.Store.slot_kinds c.args.store.now) c.args.at 3 slots.Bool c.requires.capacity c.requires.slots refl

pub set_truth-requires-clause-capacity : goal.set_truth-requires-clause-capacity
set_truth-requires-clause-capacity g c = c.requires.capacity

pub set_truth-requires-clause-kind : goal.set_truth-requires-clause-kind
set_truth-requires-clause-kind g c = field_slot (slots_of blocks.Ctu) (g.S.Store.slot_kinds c.args.store.now) c.args.at 3 slots.Bool c.requires.slots refl

pub overflow_add-at-2 : goal.overflow_add-at-2
overflow_add-at-2 g c = field_place (slots_of blocks.Ctu) (g.S.Store.slot_kinds c.args.store.now) c.args.at 4 slots.Dint c.requires.capacity c.requires.slots refl

pub set_count-requires-clause-capacity : goal.set_count-requires-clause-capacity
set_count-requires-clause-capacity g c = capacity_after (g.S.Store.slot_kinds c.args.store.now) (g.S.Store.slot_kinds c.set_truth.new.store) c.set_truth.ensures.kinds c.requires.capacity

pub set_count-requires-clause-kind : goal.set_count-requires-clause-kind
set_count-requires-clause-kind g c =
    slot_after (slots_of blocks.Ctu) (g.S.Store.slot_kinds c.args.store.now) (g.S.Store.slot_kinds c.set_truth.new.store) c.args.at 4 slots.Dint c.set_truth.ensures.kinds c.requires.slots refl

pub overflow_add-at-3 : goal.overflow_add-at-3
overflow_add-at-3 g c = field_place (slots_of blocks.Ctu) (g.S.Store.slot_kinds c.args.store.now) c.args.at 5 slots.Bool c.requires.capacity c.requires.slots refl

pub set_truth-requires-2-clause-capacity : goal.set_truth-requires-2-clause-capacity
set_truth-requires-2-clause-capacity g c = capacity_after (g.S.Store.slot_kinds c.args.store.now) (g.S.Store.slot_kinds c.set_count.new.store) (c.set_count.ensures.kinds ∙ c.set_truth.ensures.kinds) c.requires.capacity

pub set_truth-requires-2-clause-kind : goal.set_truth-requires-2-clause-kind
set_truth-requires-2-clause-kind g c =
    slot_after (slots_of blocks.Ctu) (g.S.Store.slot_kinds c.args.store.now) (g.S.Store.slot_kinds c.set_count.new.store) c.args.at 5 slots.Bool (c.set_count.ensures.kinds ∙ c.set_truth.ensures.kinds) c.requires.slots refl

pub returns-clause-numbers : goal.returns-clause-numbers
returns-clause-numbers g c =
    let cv : to_z w32 (of_z w32 c.args.self.cv) ≡ c.args.self.cv = to_z-of_z w32 c.args.self.cv (search rules) in
    three_written (g.S.Store.numbers c.args.store.now) _ _ (g.S.Store.numbers c.set_truth-2.new.store) c.args.at 3 _ c.args.self.cv _
    c.set_truth.ensures.number (c.set_count.ensures.number ∙ ap (λ n. slice_set (g.S.Store.numbers c.set_truth.new.store) (c.args.at + 4) n) cv)
    c.set_truth-2.ensures.number

pub returns-clause-kinds : goal.returns-clause-kinds
returns-clause-kinds g c = c.set_truth-2.ensures.kinds ∙ c.set_count.ensures.kinds ∙ c.set_truth.ensures.kinds

pub returns-clause-moments : goal.returns-clause-moments
returns-clause-moments g c = λ now start before.
    c.set_truth-2.ensures.moments now (c.set_count.ensures.moments now (c.set_truth.ensures.moments now before))
