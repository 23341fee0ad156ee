-- A number in range is written at a place that there is.
use Rattle.wc_model.proofs.Common.{◌<◌, ap, sym, subst, arith, length, slice_set}
use Rattle.wc_store.proofs.Ranges.{same_length, written_fits, in_range_has_64_bits}
use Rattle.wc_store.proofs.slot_store.SlotStoreStore.set_at.Goals as goal
use Rattle.wc_store.specs.Inside.{SlotNumbers, IsInRangeAt, AreInRange}

pub index_mut-requires : goal.index_mut-requires
index_mut-requires c =
    omega (arith, same_length _ _ c.self.invariant, ap (λ (s : SlotNumbers). length s.kinds) c.self.view_is, c.requires.place, c.self.inside.numbers.ok)

pub invariant_of-self : goal.invariant_of-self
invariant_of-self c =
    let within : c.args.at < length c.self.inside.kinds.items = subst (λ (s : SlotNumbers). c.args.at < length s.kinds) (sym c.self.view_is) c.requires.place in
    let ranged : IsInRangeAt c.self.inside.kinds.items c.args.at c.args.number = subst (λ (s : SlotNumbers). IsInRangeAt s.kinds c.args.at c.args.number) (sym c.self.view_is) c.requires.range in
    subst (λ n. AreInRange c.self.inside.kinds.items (slice_set c.self.inside.numbers.items c.args.at n)) (sym (in_range_has_64_bits _ _ _ within ranged))
    (written_fits c.self.inside.kinds.items c.self.inside.numbers.items c.args.at c.args.number c.self.invariant ranged)
