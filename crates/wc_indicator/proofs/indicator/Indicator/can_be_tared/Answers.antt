use Rattle.wc_model.proofs.Common.{◌≡◌, true, false, ◌&&◌, ap, sym, ◌∙◌, subst, arith, to_z, of_z, w64, ints}
use Rattle.std.specs.Prelude.{pos, int_le}
use Rattle.wc_model.specs.Instrument.Indication.{gross_intervals}
use Rattle.wc_indicator.specs.Kept.{RepresentsHistory, kept_view}
use Rattle.wc_indicator.proofs.indicator.Indicator.can_be_tared.Goals as goal

pub returns-then-gross-ge1 : goal.returns-then-gross-ge1
returns-then-gross-ge1 c = λ p history st.
    let before : RepresentsHistory (kept_view c.self.inside) p history = subst (λ k. RepresentsHistory k p history) (sym c.self.view_is) st in
    let raw : to_z w64 (of_z w64 c.gross_intervals-gross.result) ≡ c.gross_intervals-gross.result = omega (arith, ints, c.gross_intervals-gross.ensures.few) in
    let gross : to_z w64 (of_z w64 c.gross_intervals-gross.result) ≡ gross_intervals p history = raw ∙ c.gross_intervals-gross.ensures.reported p history st in
    let count : to_z w64 (of_z w64 c.from.result) ≡ pos p.n =
    (omega (arith, ints, c.from.ensures, c.n.ensures.n, c.self.invariant.ranges.plate.count)) ∙ ap (λ q. pos q.n) before.same_plate in
    let least : int_le (pos 1) (gross_intervals p history) ≡ true = sym (ap (int_le (pos 1)) gross) ∙ c.if-gross-ge1.true in
    (λ i. int_le (gross i) (count i)) ∙ sym (ap (λ b. b && int_le (gross_intervals p history) (pos p.n)) least)

pub returns-else-gross-ge1 : goal.returns-else-gross-ge1
returns-else-gross-ge1 c = λ p history st.
    let raw : to_z w64 (of_z w64 c.gross_intervals-gross.result) ≡ c.gross_intervals-gross.result = omega (arith, ints, c.gross_intervals-gross.ensures.few) in
    let gross : to_z w64 (of_z w64 c.gross_intervals-gross.result) ≡ gross_intervals p history = raw ∙ c.gross_intervals-gross.ensures.reported p history st in
    let less : int_le (pos 1) (gross_intervals p history) ≡ false = sym (ap (int_le (pos 1)) gross) ∙ c.if-gross-ge1.false in
    c.if-gross-ge1.false ∙ sym (ap (λ b. b && int_le (gross_intervals p history) (pos p.n)) less)
