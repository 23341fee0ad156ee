-- One more place is carried over, or begins with its first number.
use Rattle.wc_model.proofs.Common.{◌≡◌, ◌+◌, ◌<◌, List, Option, length, option_map, refl, sym, ap, ◌∙◌, subst, arith, rules, to_z, of_z, w64, IfSome, slice_get, slice_set, length-map}
use Rattle.wc_machine.proofs.Carrying.{AreCarriedTo, carried_within, first_stays, moment_carried, none_carried, one_carried}
use Rattle.wc_machine.proofs.stores.carried_over.Goals as goal
use Rattle.wc_machine.proofs.stores.carried_over.Goals.{in-Some, in_default}
use Rattle.wc_execution.specs.Lines.{AreBefore}
use Rattle.wc_model.specs.Definitions.{IsInRange, slot_kind_of, slot_kinds, text_view}
use Rattle.wc_model.specs.declared.kind.SlotKind.{SlotKind}
use Rattle.wc_store.specs.Inside.{IsInRangeAt}
use Rattle.wc_text_flat.specs.Contents.{frame_of_text}

pub loop-at-init : goal.loop-at-init
loop-at-init g c = record {
  carried = none_carried (text_view c.args.old.now.source) (text_view c.args.loaded.now.source) (g.S.Store.numbers c.args.old_store.now) (g.S.Store.numbers c.args.first);
  kinds = refl;
  moments = λ last before earlier. before;
}

pub overflow_cast-place : goal.overflow_cast-place
overflow_cast-place g c =
    let frame = frame_of_text (text_view c.args.loaded.now.source) in
    let kinds = ap length c.requires.kinds ∙ length-map frame (λ entry. slot_kind_of entry.1) in
    let few = c.requires.capacity in
    let t = c.loop-at-test.true in
    let s = c.size-at-end.ensures in
    omega (arith, kinds, few, t, s)

pub carry-requires : goal.carry-requires
carry-requires g c =
    let t = c.loop-at-test.true in
    let s = c.size-at-end.ensures in
    omega (arith, t, s)

pub get_at-number-requires-clause-place : goal.get_at-number-requires-clause-place
get_at-number-requires-clause-place g c =
    let frame = frame_of_text (text_view c.args.loaded.now.source) in
    let old = slot_kinds (frame_of_text (text_view c.args.old.now.source)) in
    let t = c.loop-at-test.true in
    let s = c.size-at-end.ensures in
    let l = length-map frame (λ entry. slot_kind_of entry.1) in
    subst (λ (ks : List SlotKind). c.in-Some.from.0 < length ks) (sym c.requires.old_kinds)
    (carried_within (slot_kinds frame) old c.loop-at.at c.in-Some.from.0 c.in-Some.ensures.kind (omega (arith, t, s, l)))

pub set_at-requires-clause-place : goal.set_at-requires-clause-place
set_at-requires-clause-place g c =
    let frame = frame_of_text (text_view c.args.loaded.now.source) in
    let kinds = ap length (c.loop-at.invariant.kinds ∙ c.requires.kinds) ∙ length-map frame (λ entry. slot_kind_of entry.1) in
    let t = c.loop-at-test.true in
    let s = c.size-at-end.ensures in
    omega (arith, kinds, t, s)

pub set_at-requires-clause-fits : goal.set_at-requires-clause-fits
set_at-requires-clause-fits g c =
    let frame = frame_of_text (text_view c.args.loaded.now.source) in
    let kinds = ap length c.requires.kinds ∙ length-map frame (λ entry. slot_kind_of entry.1) in
    let few = c.requires.capacity in
    let t = c.loop-at-test.true in
    let s = c.size-at-end.ensures in
    omega (arith, kinds, few, t, s)

pub set_at-requires-clause-range : goal.set_at-requires-clause-range
set_at-requires-clause-range g c =
    let at = c.loop-at.at in
    let from = c.in-Some.from.0 in
    let n = c.get_at-number.result in
    let bits : to_z w64 (of_z w64 n) ≡ n = search rules in
    let kind = ap (λ ks. slice_get ks at) (c.loop-at.invariant.kinds ∙ c.requires.kinds) ∙ c.in-Some.ensures.kind ∙ ap (λ ks. slice_get ks from) (sym c.requires.old_kinds) in
    subst (IsInRangeAt (g.S.Store.slot_kinds c.loop-at.store) at) (sym bits) (subst (λ (o : Option SlotKind). IfSome o (λ k. IsInRange k n)) (sym kind) c.get_at-number.ensures.range)

pub returns-clause-kinds : goal.returns-clause-kinds
returns-clause-kinds g c = c.loop-at.invariant.kinds

pub returns-clause-numbers : goal.returns-clause-numbers
returns-clause-numbers g c =
    let t = c.loop-at-test.false in
    let s = c.size-at-end.ensures in
    record {
      count = c.loop-at.invariant.carried.count;
      each = λ n below. c.loop-at.invariant.carried.done n (omega (arith, t, s, below));
    }

pub returns-clause-moments : goal.returns-clause-moments
returns-clause-moments g c = c.loop-at.invariant.moments

pub loop-at-preserved : goal.loop-at-preserved
loop-at-preserved g c =
    let old = text_view c.args.old.now.source in
    let new = text_view c.args.loaded.now.source in
    let at = c.loop-at.at in
    let numbers = g.S.Store.numbers c.args.old_store.now in
    let first = g.S.Store.numbers c.args.first in
    elim c.match-carry.branch [
      | in-Some w ↦
          let carried = w.in-Some.ensures.carried in
          let from = w.in-Some.from.0 in
          let n = w.get_at-number.result in
          let kind = ap (λ ks. slice_get ks at) (c.loop-at.invariant.kinds ∙ c.requires.kinds) ∙ w.in-Some.ensures.kind ∙ ap (λ ks. slice_get ks from) (sym c.requires.old_kinds) in
          let below : at < length first = (let t = c.loop-at-test.true in let s = c.size-at-end.ensures in let l = c.requires.numbers in omega (arith, t, s, l)) in
          let written : g.S.Store.numbers w.set_at.new.self ≡ slice_set (g.S.Store.numbers c.loop-at.store) at n = search rules in
          record {
            carried = subst (λ s. AreCarriedTo old new numbers first (g.S.Store.numbers s) (at + 1)) (sym w.store-is) (subst (λ ns. AreCarriedTo old new numbers first ns (at + 1)) (sym written)
                (one_carried old new numbers first (g.S.Store.numbers c.loop-at.store) at from n (sym carried) w.get_at-number.ensures.number below c.loop-at.invariant.carried));
            kinds = ap (λ s. g.S.Store.slot_kinds s) w.store-is ∙ w.set_at.ensures.kinds ∙ c.loop-at.invariant.kinds;
            moments = λ last before earlier. subst (λ s. AreBefore last (g.S.Store.slot_kinds s) (g.S.Store.numbers s)) (sym w.store-is)
                (subst (λ ks. AreBefore last ks (g.S.Store.numbers w.set_at.new.self)) (sym w.set_at.ensures.kinds) (subst (λ ns. AreBefore last (g.S.Store.slot_kinds c.loop-at.store) ns) (sym written)
                (moment_carried last (g.S.Store.slot_kinds c.loop-at.store) (g.S.Store.slot_kinds c.args.old_store.now) (g.S.Store.numbers c.loop-at.store) numbers at from n kind w.get_at-number.ensures.number (c.loop-at.invariant.moments last before earlier) earlier)));
          }
      | in_default w ↦ record {
        carried = subst (λ s. AreCarriedTo old new numbers first (g.S.Store.numbers s) (at + 1)) (sym w.store-is) (first_stays old new numbers first (g.S.Store.numbers c.loop-at.store) at (sym c.carry.ensures.carried ∙ ap (option_map (λ p. p.0)) w.in_default.is) c.loop-at.invariant.carried);
        kinds = ap (λ s. g.S.Store.slot_kinds s) w.store-is ∙ c.loop-at.invariant.kinds;
        moments = λ last before earlier. subst (λ s. AreBefore last (g.S.Store.slot_kinds s) (g.S.Store.numbers s)) (sym w.store-is) (c.loop-at.invariant.moments last before earlier);
      }
    ]
