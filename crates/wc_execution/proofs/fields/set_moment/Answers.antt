-- The place is one of a moment, which is not ahead, and no other is written.
use Rattle.wc_model.proofs.Common.{pos, ap, sym, ◌∙◌, subst, slice_set}
use Rattle.wc_execution.proofs.Moments.{set_moment_keeps}
use Rattle.wc_execution.proofs.SlotKinds.{moment_in_range, moment_is_wide, place_fits, place_there, wide_moment, writes_in_range}
use Rattle.wc_execution.proofs.fields.set_moment.Goals as goal
use Rattle.wc_execution.specs.Lines.{AreBefore}
use Rattle.wc_model.specs.declared.kind.SlotKind.TheVariants as slots

pub overflow_cast-moment : goal.overflow_cast-moment
overflow_cast-moment g c = moment_is_wide c.args.moment c.requires.range

pub set_at-requires-clause-place : goal.set_at-requires-clause-place
set_at-requires-clause-place g c = place_there slots.Moment (g.S.Store.slot_kinds c.args.store.now) c.args.at c.requires.kind

pub set_at-requires-clause-fits : goal.set_at-requires-clause-fits
set_at-requires-clause-fits g c = place_fits slots.Moment (g.S.Store.slot_kinds c.args.store.now) c.args.at 65536 c.requires.capacity c.requires.kind

pub set_at-requires-clause-range : goal.set_at-requires-clause-range
set_at-requires-clause-range g c =
    writes_in_range slots.Moment (g.S.Store.slot_kinds c.args.store.now) c.args.at _ (pos c.args.moment) c.requires.kind
    (wide_moment c.args.moment c.requires.range) (moment_in_range c.args.moment c.requires.range)

pub returns-clause-number : goal.returns-clause-number
returns-clause-number g c =
    c.set_at.ensures.numbers ∙ ap (λ n. slice_set (g.S.Store.numbers c.args.store.now) c.args.at n) (wide_moment c.args.moment c.requires.range)

pub returns-clause-kinds : goal.returns-clause-kinds
returns-clause-kinds g c = c.set_at.ensures.kinds

pub returns-clause-moments : goal.returns-clause-moments
returns-clause-moments g c = λ now below before.
    let kinds = g.S.Store.slot_kinds c.args.store.now in
    let numbers = g.S.Store.numbers c.args.store.now in
    subst (λ ks. AreBefore now ks (g.S.Store.numbers c.set_at.new.self)) (sym c.set_at.ensures.kinds)
    (subst (λ ns. AreBefore now kinds ns) (sym (returns-clause-number g c)) (set_moment_keeps now kinds numbers c.args.at c.args.moment below before))
