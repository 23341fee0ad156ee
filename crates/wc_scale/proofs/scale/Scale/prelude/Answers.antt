use Rattle.std.proofs.Common.{◌≡◌, ◌∙◌, ap, rules, subst}
use Rattle.wc_model.specs.Instrument.Plates.{PlateData}
use Rattle.wc_run.specs.OpenScales.{Represents as OpenRepresents}
use Rattle.wc_scale.specs.{IsReportedState, IsOpenAt}
use Rattle.wc_scale.proofs.scale.Scale.prelude.Goals as goal

-- what is reported is what the open scale's prelude has
pub returns-in-Some-clause-reports : goal.returns-in-Some-clause-reports
returns-in-Some-clause-reports c = λ plate came represents.
    let held : OpenRepresents c.in-Some.opened plate came = subst (λ opened. IsOpenAt opened plate came) c.in-Some.is represents in
    let kept = c.plate.ensures plate came.history (c.indicator.ensures.represents plate came held) in
    let window : c.prelude_answer.result.window ≡ c.plate.result.now.window = search (rules, c.prelude_answer.ensures.window, c.window-window.ensures.window) in
    record {
      done = c.prelude_answer.ensures.status;
      window = window ∙ ap (λ (p : PlateData). p.window) kept;
      state = subst (IsReportedState c.prelude_answer.result) (c.prelude.ensures.state plate came held) c.prelude_answer.ensures.state;
    }
