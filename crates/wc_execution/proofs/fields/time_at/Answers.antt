-- The place is one of a TIME.
use Rattle.wc_execution.proofs.SlotKinds.{narrow_fits, narrow_is, place_fits, place_there, range_of, reads_number, wide_fits}
use Rattle.wc_execution.proofs.fields.time_at.Goals as goal
use Rattle.wc_model.specs.declared.kind.SlotKind.TheVariants as slots

pub get_at-requires-clause-place : goal.get_at-requires-clause-place
get_at-requires-clause-place g c = place_there slots.Time (g.S.Store.slot_kinds c.args.store.now) c.args.at c.requires.kind

pub get_at-requires-clause-fits : goal.get_at-requires-clause-fits
get_at-requires-clause-fits g c = place_fits slots.Time (g.S.Store.slot_kinds c.args.store.now) c.args.at 65536 c.requires.capacity c.requires.kind

pub overflow_cast-result : goal.overflow_cast-result
overflow_cast-result g c =
    narrow_fits c.get_at.result (wide_fits c.get_at.result c.get_at.type_inv) (range_of slots.Time (g.S.Store.slot_kinds c.args.store.now) c.args.at c.get_at.result c.requires.kind c.get_at.ensures.range)

pub returns : goal.returns
returns g c =
    reads_number slots.Time (g.S.Store.slot_kinds c.args.store.now) (g.S.Store.numbers c.args.store.now) c.args.at c.get_at.result _ c.requires.kind c.get_at.ensures.number
    (narrow_is c.get_at.result (wide_fits c.get_at.result c.get_at.type_inv) (range_of slots.Time (g.S.Store.slot_kinds c.args.store.now) c.args.at c.get_at.result c.requires.kind c.get_at.ensures.range))
