-- The kinds stay, so each write is to a place of its kind, and keeps that no moment is ahead.
use Rattle.std.proofs.Common.{refl}
use Rattle.wc_execution.proofs.BlockFields.{field_place, field_slot}
use Rattle.wc_execution.proofs.plain_blocks.SrStoredBlock.set_fields.Goals as goal
use Rattle.wc_execution.specs.Lines.{slots_of}
use Rattle.wc_model.specs.declared.block.StandardBlock.TheVariants as blocks
use Rattle.wc_model.specs.declared.kind.SlotKind.TheVariants as slots

pub overflow_add-at : goal.overflow_add-at
overflow_add-at g c = field_place (slots_of blocks.Sr) (g.S.Store.slot_kinds c.args.store.now) c.args.at 2 slots.Bool c.requires.capacity c.requires.slots refl

pub set_truth-requires-clause-capacity : goal.set_truth-requires-clause-capacity
set_truth-requires-clause-capacity g c = c.requires.capacity

pub set_truth-requires-clause-kind : goal.set_truth-requires-clause-kind
set_truth-requires-clause-kind g c = field_slot (slots_of blocks.Sr) (g.S.Store.slot_kinds c.args.store.now) c.args.at 2 slots.Bool c.requires.slots refl

pub returns-clause-numbers : goal.returns-clause-numbers
returns-clause-numbers g c = c.set_truth.ensures.number

pub returns-clause-kinds : goal.returns-clause-kinds
returns-clause-kinds g c = c.set_truth.ensures.kinds

pub returns-clause-moments : goal.returns-clause-moments
returns-clause-moments g c = λ now start before. c.set_truth.ensures.moments now before
