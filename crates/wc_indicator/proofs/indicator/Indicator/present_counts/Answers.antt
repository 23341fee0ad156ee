use Rattle.wc_model.proofs.Common.{◌≡◌, ap, sym, ◌∙◌, subst, arith, to_z, of_z, w32, unwrap_or, ints}
use Rattle.wc_model.specs.Instrument.WeighingHistories.{last_sample}
use Rattle.wc_indicator.specs.Kept.{RepresentsHistory, IsCount, kept_view}
use Rattle.wc_indicator.proofs.Units.{either_range}
use Rattle.wc_indicator.proofs.indicator.Indicator.present_counts.Goals as goal

pub returns-clause-reported : goal.returns-clause-reported
returns-clause-reported c = λ p history st.
    let before : RepresentsHistory (kept_view c.self.inside) p history = subst (λ k. RepresentsHistory k p history) (sym c.self.view_is) st in
    let range = c.self.invariant.ranges.plate.zero_in_range in
    let raw : to_z w32 (of_z w32 c.zero_counts.result) ≡ c.self.inside.plate.zero_counts = omega (arith, ints, range, c.zero_counts.ensures.zero_counts) in
    let same : to_z w32 (of_z w32 c.unwrap_or.result) ≡ c.unwrap_or.result = omega (arith, ints) in
    same ∙ c.unwrap_or.ensures ∙ ap (unwrap_or c.self.inside.last) raw
    ∙ ap (λ o. unwrap_or o c.self.inside.plate.zero_counts) before.same_last ∙ ap (λ q. unwrap_or (last_sample history) q.zero_counts) before.same_plate

pub returns-clause-range : goal.returns-clause-range
returns-clause-range c =
    let range = c.self.invariant.ranges.plate.zero_in_range in
    let raw : to_z w32 (of_z w32 c.zero_counts.result) ≡ c.self.inside.plate.zero_counts = omega (arith, ints, range, c.zero_counts.ensures.zero_counts) in
    let same : to_z w32 (of_z w32 c.unwrap_or.result) ≡ c.unwrap_or.result = omega (arith, ints) in
    let calibrated : IsCount c.self.inside.plate.zero_counts = omega (arith, ints, range) in
    subst (λ z. IsCount z) (sym (same ∙ c.unwrap_or.ensures ∙ ap (unwrap_or c.self.inside.last) raw))
    (either_range c.self.inside.last c.self.inside.plate.zero_counts c.self.invariant.ranges.last calibrated)
