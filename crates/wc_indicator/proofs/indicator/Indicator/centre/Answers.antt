use Rattle.wc_model.proofs.Common.{◌≡◌, ◌*◌, true, ◌&&◌, ap, sym, ◌∙◌, subst, arith, to_z, of_z, w32, ints, unsigned_abs-mul}
use Rattle.std.specs.Prelude.{pos, ◌*ℤ◌, unsigned_abs, nat_le, is_some}
use Rattle.wc_model.specs.Instrument.Indication.{from_zero, has_sample}
use Rattle.wc_indicator.specs.Kept.{RepresentsHistory, kept_view}
use Rattle.wc_indicator.proofs.indicator.Indicator.centre.Goals as goal

pub returns-then-is_some : goal.returns-then-is_some
returns-then-is_some c = λ p history st.
    let before : RepresentsHistory (kept_view c.self.inside) p history = subst (λ k. RepresentsHistory k p history) (sym c.self.view_is) st in
    let came : has_sample history ≡ true = sym (ap is_some before.same_last) ∙ sym c.is_some.ensures ∙ c.if-is_some.true in
    let load : to_z w32 (of_z w32 c.from_zero.result) ≡ from_zero p history =
    (omega (arith, ints, c.from_zero.ensures.range)) ∙ c.from_zero.ensures.reported p history st in
    let size : c.from.result ≡ unsigned_abs (from_zero p history) = c.from.ensures ∙ c.unsigned_abs.ensures.value ∙ ap unsigned_abs load in
    let count : unsigned_abs (to_z w32 (of_z w32 c.n.result)) ≡ p.n =
    (omega (arith, ints, c.n.ensures.n, c.self.invariant.ranges.plate.count)) ∙ ap (λ q. q.n) before.same_plate in
    let span : unsigned_abs (to_z w32 (of_z w32 c.span_counts.result)) ≡ p.span_counts =
    (omega (arith, ints, c.span_counts.ensures.span_counts, c.self.invariant.ranges.plate.span_in_range)) ∙ ap (λ q. q.span_counts) before.same_plate in
    let amount = (λ i. size i * count i) ∙ sym (unsigned_abs-mul (from_zero p history) (pos p.n)) in
    (λ i. nat_le (4 * amount i) (span i)) ∙ sym (ap (λ b. b && nat_le (4 * unsigned_abs (from_zero p history *ℤ pos p.n)) p.span_counts) came)
