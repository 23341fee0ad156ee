use Rattle.wc_model.proofs.Common.{◌≡◌, ◌*◌, ap, sym, ◌∙◌, subst, arith, to_z, of_z, w32, ◌-ℤ◌, unsigned_abs, nat_le, ints}
use Rattle.wc_model.specs.Instrument.Indication.{present_counts}
use Rattle.wc_indicator.specs.Kept.{RepresentsHistory, kept_view}
use Rattle.wc_indicator.proofs.Units.{difference_kept}
use Rattle.wc_indicator.proofs.indicator.Indicator.near_zero.Goals as goal

pub returns : goal.returns
returns c = λ p history st.
    let before : RepresentsHistory (kept_view c.self.inside) p history = subst (λ k. RepresentsHistory k p history) (sym c.self.view_is) st in
    let zero : c.zero_counts.result ≡ p.zero_counts = c.zero_counts.ensures.zero_counts ∙ ap (λ q. q.zero_counts) before.same_plate in
    let load : to_z w32 (of_z w32 (to_z w32 (of_z w32 c.present_counts.result) -ℤ to_z w32 (of_z w32 c.zero_counts.result))) ≡ present_counts p history -ℤ p.zero_counts =
    difference_kept c.present_counts.result c.zero_counts.result (present_counts p history) p.zero_counts
    (omega (arith, c.present_counts.ensures.range)) (omega (arith, ints, c.zero_counts.ensures.ranges.zero_in_range, c.zero_counts.ensures.zero_counts)) (c.present_counts.ensures.reported p history st) zero in
    let size = c.from.ensures ∙ c.unsigned_abs-distance.ensures.value ∙ ap unsigned_abs load in
    let span : unsigned_abs (to_z w32 (of_z w32 c.span_counts.result)) ≡ p.span_counts =
    (omega (arith, ints, c.span_counts.ensures.span_counts, c.self.invariant.ranges.plate.span_in_range)) ∙ ap (λ q. q.span_counts) before.same_plate in
    λ i. nat_le (50 * size i) (span i)
