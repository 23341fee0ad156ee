-- The number is in the range of the place.
use Rattle.std.proofs.Common.{Some, ap, ◌∙◌}
use Rattle.wc_execution.proofs.NamedPlaces.{read_below, read_fits, read_is, read_place, read_within}
use Rattle.wc_execution.proofs.SlotKinds.{narrow_fits, narrow_is, wide_fits}
use Rattle.wc_execution.proofs.places.read.Goals as goal

pub overflow_add-base : goal.overflow_add-base
overflow_add-base g c =
    read_place c.args.base (g.S.Store.slot_kinds c.args.store.now) (g.S.Store.numbers c.args.store.now) c.args.place c.requires.capacity c.requires.there

pub get_at-requires-clause-place : goal.get_at-requires-clause-place
get_at-requires-clause-place g c =
    read_within c.args.base (g.S.Store.slot_kinds c.args.store.now) (g.S.Store.numbers c.args.store.now) c.args.place c.requires.there

pub get_at-requires-clause-fits : goal.get_at-requires-clause-fits
get_at-requires-clause-fits g c =
    read_below c.args.base (g.S.Store.slot_kinds c.args.store.now) (g.S.Store.numbers c.args.store.now) c.args.place 65536 c.requires.capacity c.requires.there

pub overflow_cast-result : goal.overflow_cast-result
overflow_cast-result g c =
    narrow_fits c.get_at.result (wide_fits c.get_at.result c.get_at.type_inv)
    (read_fits c.args.base (g.S.Store.slot_kinds c.args.store.now) (g.S.Store.numbers c.args.store.now) c.args.place c.get_at.result c.get_at.ensures.number c.get_at.ensures.range c.requires.there)

pub returns : goal.returns
returns g c =
    read_is c.args.base (g.S.Store.slot_kinds c.args.store.now) (g.S.Store.numbers c.args.store.now) c.args.place c.get_at.result c.get_at.ensures.number c.get_at.ensures.range c.requires.there
    ∙ ap Some (narrow_is c.get_at.result (wide_fits c.get_at.result c.get_at.type_inv)
    (read_fits c.args.base (g.S.Store.slot_kinds c.args.store.now) (g.S.Store.numbers c.args.store.now) c.args.place c.get_at.result c.get_at.ensures.number c.get_at.ensures.range c.requires.there))
