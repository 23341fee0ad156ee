-- The number is in the range of the place, and the moments stay.
use Rattle.wc_model.proofs.Common.{◌+◌, Some, w32, ap, sym, ◌∙◌, subst, slice_set, to_z-of_z}
use Rattle.wc_execution.proofs.Moments.{written_keeps}
use Rattle.wc_execution.proofs.NamedPlaces.{write_below, write_is, write_place, write_range, write_within}
use Rattle.wc_execution.proofs.SlotKinds.{wide_fits, wide_is}
use Rattle.wc_execution.proofs.places.write.Goals as goal
use Rattle.wc_execution.specs.Lines.{AreBefore}
use Rattle.wc_store.specs.Inside.{IsInRangeAt}

pub overflow_add-base : goal.overflow_add-base
overflow_add-base g c =
    write_place c.args.base (g.S.Store.slot_kinds c.args.store.now) (g.S.Store.numbers c.args.store.now) c.args.place c.args.number c.requires.capacity c.requires.there

pub set_at-requires-clause-place : goal.set_at-requires-clause-place
set_at-requires-clause-place g c =
    write_within c.args.base (g.S.Store.slot_kinds c.args.store.now) (g.S.Store.numbers c.args.store.now) c.args.place c.args.number c.requires.there

pub set_at-requires-clause-fits : goal.set_at-requires-clause-fits
set_at-requires-clause-fits g c =
    write_below c.args.base (g.S.Store.slot_kinds c.args.store.now) (g.S.Store.numbers c.args.store.now) c.args.place 65536 c.args.number c.requires.capacity c.requires.there

pub set_at-requires-clause-range : goal.set_at-requires-clause-range
set_at-requires-clause-range g c =
    subst (λ n. IsInRangeAt (g.S.Store.slot_kinds c.args.store.now) (c.args.base + c.args.place.0) n) (sym (wide_is c.from.result c.args.number (wide_fits c.from.result c.from.type_inv) (c.from.ensures ∙ to_z-of_z w32 c.args.number c.ranges.number)))
    (write_range c.args.base (g.S.Store.slot_kinds c.args.store.now) (g.S.Store.numbers c.args.store.now) c.args.place c.args.number c.ranges.number c.requires.there)

pub returns-clause-numbers : goal.returns-clause-numbers
returns-clause-numbers g c =
    write_is c.args.base (g.S.Store.slot_kinds c.args.store.now) (g.S.Store.numbers c.args.store.now) c.args.place c.args.number c.ranges.number c.requires.there
    ∙ ap Some (sym (c.set_at.ensures.numbers ∙ ap (λ n. slice_set (g.S.Store.numbers c.args.store.now) (c.args.base + c.args.place.0) n) (wide_is c.from.result c.args.number (wide_fits c.from.result c.from.type_inv) (c.from.ensures ∙ to_z-of_z w32 c.args.number c.ranges.number))))

pub returns-clause-kinds : goal.returns-clause-kinds
returns-clause-kinds g c = c.set_at.ensures.kinds

pub returns-clause-moments : goal.returns-clause-moments
returns-clause-moments g c =
    λ now before.
    subst (λ kinds. AreBefore now kinds (g.S.Store.numbers c.set_at.new.self)) (sym c.set_at.ensures.kinds)
    (written_keeps now c.args.base (g.S.Store.slot_kinds c.args.store.now) (g.S.Store.numbers c.args.store.now) c.args.place c.args.number (g.S.Store.numbers c.set_at.new.self) (returns-clause-numbers g c) before)
