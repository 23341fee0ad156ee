-- A number written under a place is written at its index.
use Rattle.wc_model.proofs.Common.{◌<◌, ap, sym, ◌∙◌, subst, length, slice_set}
use Rattle.wc_model.specs.Language.Frames.{IsInRange}
use Rattle.wc_store.proofs.Numbered.{IsKept, is_kept, IsWritten, is_written, in_kind, not_missing}
use Rattle.wc_store.proofs.Ranges.{in_range_has_64_bits}
use Rattle.wc_store.proofs.named_store.NamedStoreStore.set.Goals as goal
use Rattle.wc_store.proofs.named_store.NamedStoreStore.set.Goals.{in-Some, in_default}
use Rattle.wc_store.specs.Inside.{kinds_in, tag_view, SlotNumbers, IsInRangeAt}

pub with_number-requires : goal.with_number-requires
with_number-requires c =
    let entries = c.self.inside.slots.entries in
    let kept : IsKept entries c.args.place.0 c.in-Some.tagged.now =
    subst (λ at. IsKept entries at c.in-Some.tagged.now) c.from.ensures (is_kept entries c.from.result c.in-Some.tagged.now c.self.invariant.places c.self.invariant.ranges (sym c.in-Some.ensures.value)) in
    let within : c.args.place.0 < length (kinds_in entries) = subst (λ (s : SlotNumbers). c.args.place.0 < length s.kinds) (sym c.self.view_is) c.requires.place in
    let ranged : IsInRangeAt (kinds_in entries) c.args.place.0 c.args.number = subst (λ (s : SlotNumbers). IsInRangeAt s.kinds c.args.place.0 c.args.number) (sym c.self.view_is) c.requires.range in
    subst (IsInRange (tag_view c.in-Some.tagged.now)) (sym (in_range_has_64_bits (kinds_in entries) c.args.place.0 c.args.number within ranged))
    (in_kind (kinds_in entries) c.args.place.0 (tag_view c.in-Some.tagged.now) c.args.number kept.kind ranged)

-- what is written
written : (c : goal.Joined-get_mut) → IsWritten c.self.inside.slots.entries c.match-get_mut.self-inside.slots.entries c.args.place.0 c.args.number
written c =
    let entries = c.self.inside.slots.entries in
    let at = c.from.result in
    let within : at < length (kinds_in entries) =
    subst (λ k. k < length (kinds_in entries)) (sym c.from.ensures) (subst (λ (s : SlotNumbers). c.args.place.0 < length s.kinds) (sym c.self.view_is) c.requires.place) in
    let ranged : IsInRangeAt (kinds_in entries) at c.args.number =
    subst (λ k. IsInRangeAt (kinds_in entries) k c.args.number) (sym c.from.ensures) (subst (λ (s : SlotNumbers). IsInRangeAt s.kinds c.args.place.0 c.args.number) (sym c.self.view_is) c.requires.range) in
    subst (λ k. IsWritten entries c.match-get_mut.self-inside.slots.entries k c.args.number) c.from.ensures
    (elim c.match-get_mut.branch [
      | in-Some w ↦
          is_written entries c.match-get_mut.self-inside.slots.entries at w.in-Some.tagged.now w.with_number.result c.args.number c.self.invariant.places c.self.invariant.ranges
          (is_kept entries at w.in-Some.tagged.now c.self.invariant.places c.self.invariant.ranges (sym w.in-Some.ensures.value))
          ranged w.with_number.ensures.kind (w.with_number.ensures.number ∙ in_range_has_64_bits (kinds_in entries) at c.args.number within ranged)
          (ap (λ i. i.slots.entries) w.self-inside-is ∙ (c.get_mut.follows.holds w.with_number.result).0)
      | in_default w ↦ absurd (not_missing entries at c.self.invariant.places within (sym c.get_mut.ensures.value ∙ ap Rattle.std.specs.Option.option_copied_mut w.in_default.is))
    ])

pub invariant_of-self : goal.invariant_of-self
invariant_of-self c = record { places = (written c).places; ranges = (written c).ranges }

pub returns-clause-numbers : goal.returns-clause-numbers
returns-clause-numbers c = (written c).numbers_are ∙ ap (λ (s : SlotNumbers). slice_set s.numbers c.args.place.0 c.args.number) c.self.view_is

pub returns-clause-kinds : goal.returns-clause-kinds
returns-clause-kinds c = (written c).kinds_stay ∙ ap (λ (s : SlotNumbers). s.kinds) c.self.view_is
