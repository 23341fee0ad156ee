-- What is kept under a place is what is at its index.
use Rattle.wc_model.proofs.Common.{◌≡◌, ◌<◌, ap, sym, ◌∙◌, subst, length, Some, to_z, of_z, w64, slice_get}
use Rattle.wc_store.proofs.Numbered.{IsKept, is_kept, not_missing}
use Rattle.wc_store.proofs.Ranges.{has_64_bits}
use Rattle.wc_store.proofs.named_store.NamedStoreStore.get.Goals as goal
use Rattle.wc_store.specs.Inside.{kinds_in, number_view, tag_view, SlotNumbers, IsInRangeAt}

pub number-requires : goal.number-requires
number-requires c = (is_kept c.self.inside.slots.entries c.from.result c.in-Some.tagged.now c.self.invariant.places c.self.invariant.ranges (sym c.in-Some.ensures.value)).range

kept : (c : goal.After-number) → IsKept c.self.inside.slots.entries c.args.place.0 c.in-Some.tagged.now
kept c =
    subst (λ at. IsKept c.self.inside.slots.entries at c.in-Some.tagged.now) c.from.ensures
    (is_kept c.self.inside.slots.entries c.from.result c.in-Some.tagged.now c.self.invariant.places c.self.invariant.ranges (sym c.in-Some.ensures.value))

-- the number has 64 bits
whole : (c : goal.After-number) → to_z w64 (of_z w64 c.number.result) ≡ number_view c.in-Some.tagged.now
whole c = ap (λ n. to_z w64 (of_z w64 n)) c.number.ensures ∙ has_64_bits (tag_view c.in-Some.tagged.now) (number_view c.in-Some.tagged.now) (kept c).range

pub returns-in-Some-clause-number : goal.returns-in-Some-clause-number
returns-in-Some-clause-number c =
    ap (λ (s : SlotNumbers). slice_get s.numbers c.args.place.0) (sym c.self.view_is) ∙ (kept c).number ∙ ap Some (sym (whole c))

pub returns-in-Some-clause-range : goal.returns-in-Some-clause-range
returns-in-Some-clause-range c =
    subst (IsInRangeAt c.args.self.now.kinds c.args.place.0) (sym (whole c))
    (subst (λ (s : SlotNumbers). IsInRangeAt s.kinds c.args.place.0 (number_view c.in-Some.tagged.now)) c.self.view_is (kept c).range_there)

pub returns-in-None-clause-number : goal.returns-in-None-clause-number
returns-in-None-clause-number c =
    let within : c.args.place.0 < length (kinds_in c.self.inside.slots.entries) = subst (λ (s : SlotNumbers). c.args.place.0 < length s.kinds) (sym c.self.view_is) c.requires in
    absurd (not_missing c.self.inside.slots.entries c.from.result c.self.invariant.places
    (subst (λ at. at < length (kinds_in c.self.inside.slots.entries)) (sym c.from.ensures) within) (sym c.in-None.ensures.value))
