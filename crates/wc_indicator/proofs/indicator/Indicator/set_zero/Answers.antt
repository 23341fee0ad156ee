use Rattle.wc_model.proofs.Common.{◌≡◌, ap, sym, ◌∙◌, subst, arith, to_z, of_z, w32, ints}
use Rattle.wc_model.specs.Instrument.Indication.{present_counts}
use Rattle.wc_indicator.specs.Kept.{kept_view, RepresentsHistory}
use Rattle.wc_indicator.specs.Refusals.{reason, reported_by}
use Rattle.wc_indicator.proofs.LeftByCommands.{zero_refused, zero_set}
use Rattle.wc_indicator.proofs.indicator.Indicator.set_zero.Goals as goal

pub returns-in-Some-clause-represents : goal.returns-in-Some-clause-represents
returns-in-Some-clause-represents c = λ p history st.
    zero_refused c.args.self.now p history (reason c.in-Some.refused)
    (sym (ap reported_by c.in-Some.is) ∙ c.zero_refusal.ensures p history st) st

pub returns-in-None-clause-represents : goal.returns-in-None-clause-represents
returns-in-None-clause-represents c = λ p history st.
    let before : RepresentsHistory (kept_view c.self.inside) p history = subst (λ k. RepresentsHistory k p history) (sym c.self.view_is) st in
    let raw : to_z w32 (of_z w32 c.present_counts-self-inside.result) ≡ c.present_counts-self-inside.result = omega (arith, ints, c.present_counts-self-inside.ensures.range) in
    let is : to_z w32 (of_z w32 c.present_counts-self-inside.result) ≡ present_counts p history =
    raw ∙ c.present_counts-self-inside.ensures.reported p history st in
    zero_set (kept_view c.self.inside) p history (to_z w32 (of_z w32 c.present_counts-self-inside.result))
    (sym (ap reported_by c.in-None.is) ∙ c.zero_refusal.ensures p history st) is before
