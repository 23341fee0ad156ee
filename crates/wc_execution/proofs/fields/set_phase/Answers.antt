-- The place is one of a phase, and no other is written.
use Rattle.wc_model.proofs.Common.{pos, ap, ◌∙◌, slice_set}
use Rattle.wc_execution.proofs.SlotKinds.{moments_after, phase_in_range, place_fits, place_there, wide_fits, wide_is, writes_in_range}
use Rattle.wc_execution.proofs.fields.set_phase.Goals as goal
use Rattle.wc_model.specs.declared.kind.SlotKind.TheVariants as slots

pub set_at-requires-clause-place : goal.set_at-requires-clause-place
set_at-requires-clause-place g c = place_there slots.Phase (g.S.Store.slot_kinds c.args.store.now) c.args.at c.requires.kind

pub set_at-requires-clause-fits : goal.set_at-requires-clause-fits
set_at-requires-clause-fits g c = place_fits slots.Phase (g.S.Store.slot_kinds c.args.store.now) c.args.at 65536 c.requires.capacity c.requires.kind

pub set_at-requires-clause-range : goal.set_at-requires-clause-range
set_at-requires-clause-range g c =
    writes_in_range slots.Phase (g.S.Store.slot_kinds c.args.store.now) c.args.at _ (pos c.args.phase) c.requires.kind
    (wide_is c.from.result (pos c.args.phase) (wide_fits c.from.result c.from.type_inv) c.from.ensures) (phase_in_range c.args.phase c.requires.range)

pub returns-clause-number : goal.returns-clause-number
returns-clause-number g c =
    c.set_at.ensures.numbers ∙ ap (λ n. slice_set (g.S.Store.numbers c.args.store.now) c.args.at n) (wide_is c.from.result (pos c.args.phase) (wide_fits c.from.result c.from.type_inv) c.from.ensures)

pub returns-clause-kinds : goal.returns-clause-kinds
returns-clause-kinds g c = c.set_at.ensures.kinds

pub returns-clause-moments : goal.returns-clause-moments
returns-clause-moments g c = λ now before.
    moments_after slots.Phase now (g.S.Store.slot_kinds c.args.store.now) _ (g.S.Store.numbers c.args.store.now) _ c.args.at _ c.requires.kind (λ e. cc (e))
    c.set_at.ensures.kinds c.set_at.ensures.numbers before
