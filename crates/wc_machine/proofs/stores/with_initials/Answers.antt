-- One more first number is written.
use Rattle.wc_model.proofs.Common.{◌≡◌, ◌<◌, length, get_or, pos, sym, ap, ◌∙◌, subst, arith, rules, to_z, of_z, w64, slice_set}
use Rattle.wc_execution.proofs.After.{next_over}
use Rattle.wc_machine.proofs.FirstNumbers.{FirstAt, first_at, first_count, first_fits, first_keeps}
use Rattle.wc_machine.proofs.stores.with_initials.Goals as goal
use Rattle.wc_execution.specs.Lines.{AreBefore}
use Rattle.wc_store.proofs.Ranges.{in_range_has_64_bits}
use Rattle.wc_store.specs.Inside.{IsInRangeAt}

pub set_at-requires-clause-place : goal.set_at-requires-clause-place
set_at-requires-clause-place g c =
    let there = ap length c.loop-at.invariant.kinds in
    let count = first_count (g.S.Store.slot_kinds c.args.store) c.args.initials.now c.requires.first in
    omega (arith, there, count, c.loop-at-test.true)

pub set_at-requires-clause-range : goal.set_at-requires-clause-range
set_at-requires-clause-range g c =
    let kinds = g.S.Store.slot_kinds c.args.store in
    let i = c.loop-at.at in
    let n = get_or c.args.initials.now i (pos 0) in
    let count = first_count kinds c.args.initials.now c.requires.first in
    let ranged = first_fits kinds i n (first_at kinds c.args.initials.now i c.requires.first c.loop-at-test.true) in
    subst (λ ks. IsInRangeAt ks i (to_z w64 (of_z w64 n))) (sym c.loop-at.invariant.kinds)
    (subst (IsInRangeAt kinds i) (sym (in_range_has_64_bits kinds i n (omega (arith, count, c.loop-at-test.true)) ranged)) ranged)

pub loop-at-preserved : goal.loop-at-preserved
loop-at-preserved g c =
    let i = c.loop-at.at in
    let n = get_or c.args.initials.now i (pos 0) in
    let now_kinds = g.S.Store.slot_kinds c.loop-at.store in
    let number : g.S.Store.numbers c.set_at.new.self ≡ slice_set (g.S.Store.numbers c.loop-at.store) i n = search rules in
    let below : i < length c.args.initials.now = c.loop-at-test.true in
    let within : i < length (g.S.Store.numbers c.args.store) = omega (arith, below, c.requires.numbers) in
    let found = subst (λ ks. FirstAt ks i n) (sym c.loop-at.invariant.kinds) (first_at (g.S.Store.slot_kinds c.args.store) c.args.initials.now i c.requires.first below) in
    record {
      written = number ∙ ap (λ ns. slice_set ns i n) c.loop-at.invariant.written ∙ next_over c.args.initials.now (g.S.Store.numbers c.args.store) i below within;
      kinds = c.set_at.ensures.kinds ∙ c.loop-at.invariant.kinds;
      moments = subst (λ k. AreBefore 0 k (g.S.Store.numbers c.set_at.new.self)) (sym c.set_at.ensures.kinds)
          (subst (λ ns. AreBefore 0 now_kinds ns) (sym number) (first_keeps now_kinds (g.S.Store.numbers c.loop-at.store) i found.kind n found.there found.first c.loop-at.invariant.moments));
    }
