-- The place is one of a BOOL.
use Rattle.wc_execution.proofs.SlotKinds.{bit_is, place_fits, place_there, range_of, reads_number}
use Rattle.wc_execution.proofs.fields.truth_at.Goals as goal
use Rattle.wc_model.specs.declared.kind.SlotKind.TheVariants as slots

pub get_at-requires-clause-place : goal.get_at-requires-clause-place
get_at-requires-clause-place g c = place_there slots.Bool (g.S.Store.slot_kinds c.args.store.now) c.args.at c.requires.kind

pub get_at-requires-clause-fits : goal.get_at-requires-clause-fits
get_at-requires-clause-fits g c = place_fits slots.Bool (g.S.Store.slot_kinds c.args.store.now) c.args.at 65536 c.requires.capacity c.requires.kind

pub returns : goal.returns
returns g c =
    reads_number slots.Bool (g.S.Store.slot_kinds c.args.store.now) (g.S.Store.numbers c.args.store.now) c.args.at c.get_at.result _ c.requires.kind c.get_at.ensures.number
    (bit_is c.get_at.result (range_of slots.Bool (g.S.Store.slot_kinds c.args.store.now) c.args.at c.get_at.result c.requires.kind c.get_at.ensures.range))
