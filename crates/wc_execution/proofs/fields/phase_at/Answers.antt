-- The place is one of a phase.
use Rattle.std.proofs.Common.{w8}
use Rattle.std.proofs.Math.Dec.{lit<}
use Rattle.wc_execution.proofs.SlotKinds.{natural_fits, natural_is, place_fits, place_there, range_of, reads_number, wide_fits}
use Rattle.wc_execution.proofs.fields.phase_at.Goals as goal
use Rattle.wc_model.specs.declared.kind.SlotKind.TheVariants as slots

pub get_at-requires-clause-place : goal.get_at-requires-clause-place
get_at-requires-clause-place g c = place_there slots.Phase (g.S.Store.slot_kinds c.args.store.now) c.args.at c.requires.kind

pub get_at-requires-clause-fits : goal.get_at-requires-clause-fits
get_at-requires-clause-fits g c = place_fits slots.Phase (g.S.Store.slot_kinds c.args.store.now) c.args.at 65536 c.requires.capacity c.requires.kind

pub returns : goal.returns
returns g c =
    reads_number slots.Phase (g.S.Store.slot_kinds c.args.store.now) (g.S.Store.numbers c.args.store.now) c.args.at c.get_at.result _ c.requires.kind c.get_at.ensures.number
    (natural_is 2 c.get_at.result (wide_fits c.get_at.result c.get_at.type_inv) (range_of slots.Phase (g.S.Store.slot_kinds c.args.store.now) c.args.at c.get_at.result c.requires.kind c.get_at.ensures.range))

pub overflow_cast-result : goal.overflow_cast-result
overflow_cast-result g c =
    natural_fits w8 2 c.get_at.result (lit< tt) (wide_fits c.get_at.result c.get_at.type_inv)
    (range_of slots.Phase (g.S.Store.slot_kinds c.args.store.now) c.args.at c.get_at.result c.requires.kind c.get_at.ensures.range)
