use Rattle.wc_model.proofs.Common.{◌≡◌, ap, sym, ◌∙◌, subst, [], ◌∷◌, ◌++◌, arith, to_z, of_z, w32, ints}
use Rattle.std.specs.Prelude.{ℤ}
use Rattle.wc_model.specs.Instrument.WeighingHistories.{last_items}
use Rattle.wc_indicator.specs.Kept.{RepresentsHistory, kept_view}
use Rattle.wc_indicator.proofs.Windows.{represents_after}
use Rattle.wc_indicator.proofs.indicator.Indicator.sample.Goals as goal

pub returns : goal.returns
returns c = λ p history st.
    let x : ℤ = c.args.counts in
    let raw : to_z w32 (of_z w32 x) ≡ x = omega (arith, ints) in
    let before : RepresentsHistory (kept_view c.self.inside) p history = subst (λ k. RepresentsHistory k p history) (sym c.self.view_is) st in
    rw raw (represents_after (kept_view c.self.inside) p history x c.push_back-self-inside.new.self.items before
    (ap (λ b. b.items) c.push_back-self-inside.ensures.items ∙ rw raw (ap (λ n. last_items n (c.self.inside.latest.items ++ x ∷ [])) c.self.invariant.window)))
