use Rattle.wc_model.proofs.Common.{◌≡◌, true, false, ◌+◌, ◌&&◌, ap, sym, ◌∙◌, subst, arith, to_z, of_z, w64, ints}
use Rattle.std.specs.Prelude.{pos, ◌+ℤ◌, int_lt, is_some}
use Rattle.wc_model.specs.Instrument.Indication.{gross_intervals, has_sample}
use Rattle.wc_indicator.specs.Kept.{RepresentsHistory, kept_view}
use Rattle.wc_indicator.proofs.indicator.Indicator.over.Goals as goal

pub returns-then-is_some : goal.returns-then-is_some
returns-then-is_some c = λ p history st.
    let before : RepresentsHistory (kept_view c.self.inside) p history = subst (λ k. RepresentsHistory k p history) (sym c.self.view_is) st in
    let came : has_sample history ≡ true = sym (ap is_some before.same_last) ∙ sym c.is_some.ensures ∙ c.if-is_some.true in
    let raw : to_z w64 (of_z w64 c.gross_intervals.result) ≡ c.gross_intervals.result = omega (arith, ints, c.gross_intervals.ensures.few) in
    let gross : to_z w64 (of_z w64 c.gross_intervals.result) ≡ gross_intervals p history = raw ∙ c.gross_intervals.ensures.reported p history st in
    let most : to_z w64 (of_z w64 (to_z w64 (of_z w64 c.from.result) +ℤ pos 9)) ≡ pos (p.n + 9) =
    (omega (arith, ints, c.from.ensures, c.n.ensures.n, c.self.invariant.ranges.plate.count)) ∙ ap (λ q. pos (q.n + 9)) before.same_plate in
    (λ i. int_lt (most i) (gross i)) ∙ sym (ap (λ b. b && int_lt (pos (p.n + 9)) (gross_intervals p history)) came)

pub returns-else-is_some : goal.returns-else-is_some
returns-else-is_some c = λ p history st.
    let before : RepresentsHistory (kept_view c.self.inside) p history = subst (λ k. RepresentsHistory k p history) (sym c.self.view_is) st in
    let none : has_sample history ≡ false = sym (ap is_some before.same_last) ∙ sym c.is_some.ensures ∙ c.if-is_some.false in
    c.if-is_some.false ∙ sym (ap (λ b. b && int_lt (pos (p.n + 9)) (gross_intervals p history)) none)
