use Rattle.std.proofs.Common.{sym, subst, arith}
use Rattle.wc_model.specs.Instrument.Indication.{present_counts, zero_point}
use Rattle.wc_indicator.specs.Kept.{RepresentsHistory, kept_view}
use Rattle.wc_indicator.proofs.Units.{difference_kept, difference_range}
use Rattle.wc_indicator.proofs.indicator.Indicator.from_zero.Goals as goal

pub returns-clause-reported : goal.returns-clause-reported
returns-clause-reported c = λ p history st.
    let before : RepresentsHistory (kept_view c.self.inside) p history = subst (λ k. RepresentsHistory k p history) (sym c.self.view_is) st in
    difference_kept c.present_counts.result c.self.inside.zero (present_counts p history) (zero_point p history)
    (omega (arith, c.present_counts.ensures.range)) (omega (arith, c.self.invariant.ranges.zero)) (c.present_counts.ensures.reported p history st) before.same_zero

pub returns-clause-range : goal.returns-clause-range
returns-clause-range c =
    difference_range c.present_counts.result c.self.inside.zero c.present_counts.ensures.range c.self.invariant.ranges.zero
