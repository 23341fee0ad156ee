-- The kinds stay, so each write is to a place of its kind, and keeps that no moment is ahead.
use Rattle.wc_model.proofs.Common.{◌≡◌, ◌+◌, rules, to_z, of_z, w32, refl, ap, ◌∙◌, slice_set, to_z-of_z}
use Rattle.wc_execution.proofs.BlockFields.{capacity_after, field_place, field_slot, four_written, slot_after}
use Rattle.wc_execution.proofs.tof.TofStoredBlock.set_fields.Goals as goal
use Rattle.wc_execution.specs.Lines.{slots_of}
use Rattle.wc_model.specs.declared.block.StandardBlock.TheVariants as blocks
use Rattle.wc_model.specs.declared.kind.SlotKind.TheVariants as slots

pub overflow_add-at : goal.overflow_add-at
overflow_add-at g c = field_place (slots_of blocks.Tof) (g.S.Store.slot_kinds c.args.store.now) c.args.at 2 slots.Bool c.requires.capacity c.requires.slots refl

pub set_truth-requires-clause-capacity : goal.set_truth-requires-clause-capacity
set_truth-requires-clause-capacity g c = c.requires.capacity

pub set_truth-requires-clause-kind : goal.set_truth-requires-clause-kind
set_truth-requires-clause-kind g c = field_slot (slots_of blocks.Tof) (g.S.Store.slot_kinds c.args.store.now) c.args.at 2 slots.Bool c.requires.slots refl

pub overflow_add-at-2 : goal.overflow_add-at-2
overflow_add-at-2 g c = field_place (slots_of blocks.Tof) (g.S.Store.slot_kinds c.args.store.now) c.args.at 3 slots.Time c.requires.capacity c.requires.slots refl

pub set_time-requires-clause-capacity : goal.set_time-requires-clause-capacity
set_time-requires-clause-capacity g c = capacity_after (g.S.Store.slot_kinds c.args.store.now) (g.S.Store.slot_kinds c.set_truth.new.store) c.set_truth.ensures.kinds c.requires.capacity

pub set_time-requires-clause-kind : goal.set_time-requires-clause-kind
set_time-requires-clause-kind g c =
    slot_after (slots_of blocks.Tof) (g.S.Store.slot_kinds c.args.store.now) (g.S.Store.slot_kinds c.set_truth.new.store) c.args.at 3 slots.Time c.set_truth.ensures.kinds c.requires.slots refl

pub overflow_add-at-3 : goal.overflow_add-at-3
overflow_add-at-3 g c = field_place (slots_of blocks.Tof) (g.S.Store.slot_kinds c.args.store.now) c.args.at 4 slots.Phase c.requires.capacity c.requires.slots refl

pub set_phase-requires-clause-capacity : goal.set_phase-requires-clause-capacity
set_phase-requires-clause-capacity g c = capacity_after (g.S.Store.slot_kinds c.args.store.now) (g.S.Store.slot_kinds c.set_time.new.store) (c.set_time.ensures.kinds ∙ c.set_truth.ensures.kinds) c.requires.capacity

pub set_phase-requires-clause-kind : goal.set_phase-requires-clause-kind
set_phase-requires-clause-kind g c =
    slot_after (slots_of blocks.Tof) (g.S.Store.slot_kinds c.args.store.now) (g.S.Store.slot_kinds c.set_time.new.store) c.args.at 4 slots.Phase (c.set_time.ensures.kinds ∙ c.set_truth.ensures.kinds) c.requires.slots refl

pub set_phase-requires-clause-range : goal.set_phase-requires-clause-range
set_phase-requires-clause-range g c = c.requires.range.1

pub overflow_add-at-4 : goal.overflow_add-at-4
overflow_add-at-4 g c = field_place (slots_of blocks.Tof) (g.S.Store.slot_kinds c.args.store.now) c.args.at 5 slots.Moment c.requires.capacity c.requires.slots refl

pub set_moment-requires-clause-capacity : goal.set_moment-requires-clause-capacity
set_moment-requires-clause-capacity g c = capacity_after (g.S.Store.slot_kinds c.args.store.now) (g.S.Store.slot_kinds c.set_phase.new.store) (c.set_phase.ensures.kinds ∙ c.set_time.ensures.kinds ∙ c.set_truth.ensures.kinds) c.requires.capacity

pub set_moment-requires-clause-kind : goal.set_moment-requires-clause-kind
set_moment-requires-clause-kind g c =
    slot_after (slots_of blocks.Tof) (g.S.Store.slot_kinds c.args.store.now) (g.S.Store.slot_kinds c.set_phase.new.store) c.args.at 5 slots.Moment (c.set_phase.ensures.kinds ∙ c.set_time.ensures.kinds ∙ c.set_truth.ensures.kinds) c.requires.slots refl

pub set_moment-requires-clause-range : goal.set_moment-requires-clause-range
set_moment-requires-clause-range g c = c.requires.range.0

pub returns-clause-numbers : goal.returns-clause-numbers
returns-clause-numbers g c =
    let et : to_z w32 (of_z w32 c.args.self.et) ≡ c.args.self.et = to_z-of_z w32 c.args.self.et (search rules) in
    four_written (g.S.Store.numbers c.args.store.now) _ _ _ (g.S.Store.numbers c.set_moment.new.store) c.args.at 2 _ c.args.self.et _ _
    c.set_truth.ensures.number (c.set_time.ensures.number ∙ ap (λ n. slice_set (g.S.Store.numbers c.set_truth.new.store) (c.args.at + 3) n) et)
    c.set_phase.ensures.number c.set_moment.ensures.number

pub returns-clause-kinds : goal.returns-clause-kinds
returns-clause-kinds g c = c.set_moment.ensures.kinds ∙ c.set_phase.ensures.kinds ∙ c.set_time.ensures.kinds ∙ c.set_truth.ensures.kinds

pub returns-clause-moments : goal.returns-clause-moments
returns-clause-moments g c = λ now start before.
    c.set_moment.ensures.moments now start (c.set_phase.ensures.moments now (c.set_time.ensures.moments now (c.set_truth.ensures.moments now before)))
