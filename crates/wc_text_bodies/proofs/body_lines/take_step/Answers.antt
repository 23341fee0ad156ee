use Rattle.wc_text_bodies.proofs.ShortLines.{takes_step}
use Rattle.wc_text_lines.specs.LineViews.{step_view}
use Rattle.wc_text_bodies.specs.Views.{position_view}
use Rattle.wc_text_bodies.proofs.body_lines.take_step.Goals as goal

pub returns-in_ok-add_step-in-Some-clause-goes_on : goal.returns-in_ok-add_step-in-Some-clause-goes_on
returns-in_ok-add_step-in-Some-clause-goes_on c = λ units.
    takes_step (position_view units c.args.body.now) (position_view units c.add_step.new.body) c.args.tokens.now _ (step_view c.in-Some.step)
    c.in-len3-up.len_at_least c.in-LineEnd.is (c.in-Some.ensures units) (c.in_ok-add_step-in-Some.ensures.following units)
