-- The place is one of a moment.
use Rattle.std.proofs.Common.{Some, w64, ap, ◌∙◌}
use Rattle.std.proofs.Math.Dec.{lit<}
use Rattle.wc_execution.proofs.SlotKinds.{natural_fits, natural_is, place_fits, place_there, range_of, reads_number, slot_is, wide_fits}
use Rattle.wc_execution.proofs.fields.moment_at.Goals as goal
use Rattle.wc_model.specs.declared.kind.SlotKind.TheVariants as slots

pub get_at-requires-clause-place : goal.get_at-requires-clause-place
get_at-requires-clause-place g c = place_there slots.Moment (g.S.Store.slot_kinds c.args.store.now) c.args.at c.requires.kind

pub get_at-requires-clause-fits : goal.get_at-requires-clause-fits
get_at-requires-clause-fits g c = place_fits slots.Moment (g.S.Store.slot_kinds c.args.store.now) c.args.at 65536 c.requires.capacity c.requires.kind

pub returns-clause-number : goal.returns-clause-number
returns-clause-number g c =
    reads_number slots.Moment (g.S.Store.slot_kinds c.args.store.now) (g.S.Store.numbers c.args.store.now) c.args.at c.get_at.result _ c.requires.kind c.get_at.ensures.number
    (natural_is 1099511627775 c.get_at.result (wide_fits c.get_at.result c.get_at.type_inv) (range_of slots.Moment (g.S.Store.slot_kinds c.args.store.now) c.args.at c.get_at.result c.requires.kind c.get_at.ensures.range))

pub returns-clause-before : goal.returns-clause-before
returns-clause-before g c = λ now before.
    before.each c.args.at _ (slot_is slots.Moment _ c.requires.kind)
    (c.get_at.ensures.number ∙ ap Some (natural_is 1099511627775 c.get_at.result (wide_fits c.get_at.result c.get_at.type_inv)
    (range_of slots.Moment (g.S.Store.slot_kinds c.args.store.now) c.args.at c.get_at.result c.requires.kind c.get_at.ensures.range)))

pub overflow_cast-result : goal.overflow_cast-result
overflow_cast-result g c =
    natural_fits w64 1099511627775 c.get_at.result (lit< tt) (wide_fits c.get_at.result c.get_at.type_inv)
    (range_of slots.Moment (g.S.Store.slot_kinds c.args.store.now) c.args.at c.get_at.result c.requires.kind c.get_at.ensures.range)
