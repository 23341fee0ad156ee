use Rattle.wc_model.proofs.Common.{◌≡◌, ap, ◌∙◌, arith, to_z, of_z, w64, ints}
use Rattle.wc_model.specs.Instrument.Indication.{intervals_of, from_zero, tare_counts}
use Rattle.wc_indicator.proofs.Units.{difference_kept}
use Rattle.wc_indicator.proofs.indicator.Indicator.net_intervals.Goals as goal

pub returns-clause-reported : goal.returns-clause-reported
returns-clause-reported c = λ p history st.
    let raw : to_z w64 (of_z w64 c.intervals_of.result) ≡ c.intervals_of.result = omega (arith, ints, c.intervals_of.ensures.few) in
    raw ∙ c.intervals_of.ensures.reported p history st
    ∙ ap (intervals_of p) (difference_kept c.from_zero.result c.tare_counts.result (from_zero p history) (tare_counts p history)
    c.from_zero.ensures.range c.tare_counts.ensures.range (c.from_zero.ensures.reported p history st) (c.tare_counts.ensures.reported p history st))
