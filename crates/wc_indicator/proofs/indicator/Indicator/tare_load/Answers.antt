use Rattle.wc_model.proofs.Common.{◌≡◌, ap, sym, ◌∙◌, subst, arith, to_z, of_z, w32, ints}
use Rattle.std.specs.Prelude.{◌+ℤ◌, Some, IfSome}
use Rattle.wc_laws_instrument.specs.Preludes as prelude
use Rattle.wc_model.specs.Instrument.Indication.{zero_point}
use Rattle.wc_indicator.specs.Kept.{IsDifference, RepresentsHistory, kept_view}
use Rattle.wc_indicator.proofs.indicator.Indicator.tare_load.Goals as goal

pub returns-in-Some : goal.returns-in-Some
returns-in-Some c = λ p history st.
    let before : RepresentsHistory (kept_view c.self.inside) p history = subst (λ k. RepresentsHistory k p history) (sym c.self.view_is) st in
    let own : IsDifference c.in-Some.tare = subst (λ o. IfSome o IsDifference) c.in-Some.is c.self.invariant.ranges.tare in
    let sum : to_z w32 (of_z w32 (to_z w32 (of_z w32 c.self.inside.zero) +ℤ to_z w32 (of_z w32 c.in-Some.tare))) ≡ c.self.inside.zero +ℤ c.in-Some.tare =
    omega (arith, ints, own, c.self.invariant.ranges.zero) in
    ap Some sum ∙ ap (λ z. Some (z +ℤ c.in-Some.tare)) before.same_zero
    ∙ ap (prelude.tare_load (zero_point p history)) (sym c.in-Some.is ∙ before.same_tare)

pub overflow_add-result : goal.overflow_add-result
overflow_add-result c =
    let own : IsDifference c.in-Some.tare = subst (λ o. IfSome o IsDifference) c.in-Some.is c.self.invariant.ranges.tare in
    omega (arith, ints, own, c.self.invariant.ranges.zero)
