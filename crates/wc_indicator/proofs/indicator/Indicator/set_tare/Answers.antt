use Rattle.wc_model.proofs.Common.{◌≡◌, ap, sym, ◌∙◌, subst, arith, to_z, of_z, w32, ints}
use Rattle.wc_model.specs.Instrument.Indication.{from_zero}
use Rattle.wc_indicator.specs.Kept.{kept_view, RepresentsHistory}
use Rattle.wc_indicator.specs.Refusals.{reason, reported_by}
use Rattle.wc_indicator.proofs.LeftByCommands.{tare_refused, tare_taken}
use Rattle.wc_indicator.proofs.indicator.Indicator.set_tare.Goals as goal

pub returns-in-Some-clause-represents : goal.returns-in-Some-clause-represents
returns-in-Some-clause-represents c = λ p history st.
    tare_refused c.args.self.now p history (reason c.in-Some.refused)
    (sym (ap reported_by c.in-Some.is) ∙ c.tare_refusal.ensures p history st) st

pub returns-in-None-clause-represents : goal.returns-in-None-clause-represents
returns-in-None-clause-represents c = λ p history st.
    let before : RepresentsHistory (kept_view c.self.inside) p history = subst (λ k. RepresentsHistory k p history) (sym c.self.view_is) st in
    let raw : to_z w32 (of_z w32 c.from_zero.result) ≡ c.from_zero.result = omega (arith, ints, c.from_zero.ensures.range) in
    let is : to_z w32 (of_z w32 c.from_zero.result) ≡ from_zero p history =
    raw ∙ c.from_zero.ensures.reported p history st in
    tare_taken (kept_view c.self.inside) p history (to_z w32 (of_z w32 c.from_zero.result))
    (sym (ap reported_by c.in-None.is) ∙ c.tare_refusal.ensures p history st) is before
