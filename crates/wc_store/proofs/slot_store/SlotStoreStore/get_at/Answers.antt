-- There is a number at each place, in the range of the place's kind.
use Rattle.std.proofs.Common.{◌<◌, ap, sym, subst, arith, length}
use Rattle.wc_store.proofs.Ranges.{same_length, is_read, IsRead}
use Rattle.wc_store.proofs.slot_store.SlotStoreStore.get_at.Goals as goal
use Rattle.wc_store.specs.Inside.{SlotNumbers}

pub index-requires : goal.index-requires
index-requires c =
    omega (arith, same_length _ _ c.self.invariant, ap (λ (s : SlotNumbers). length s.kinds) c.self.view_is, c.requires.place, c.self.inside.numbers.ok)

-- what is read at a place of a store
read : (c : goal.After-result-1) → IsRead c.args.self.now.kinds c.args.self.now.numbers c.args.at c.index.result.now
read c =
    let within : c.args.at < length c.self.inside.kinds.items = subst (λ (s : SlotNumbers). c.args.at < length s.kinds) (sym c.self.view_is) c.requires.place in
    subst (λ (s : SlotNumbers). IsRead s.kinds s.numbers c.args.at c.index.result.now) c.self.view_is
    (is_read c.self.inside.kinds.items c.self.inside.numbers.items c.args.at c.index.result.now c.self.invariant within c.index.ensures)

pub returns-clause-number : goal.returns-clause-number
returns-clause-number c = (read c).number

pub returns-clause-range : goal.returns-clause-range
returns-clause-range c = (read c).range
