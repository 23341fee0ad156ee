use Rattle.wc_laws_grammar.specs.Moves.{AtLine}
use Rattle.wc_text_bodies.proofs.ShortLines.{then_on}
use Rattle.wc_text_bodies.specs.Views.{position_view}
use Rattle.wc_text_bodies.proofs.body_lines.take_line.Goals as goal

pub returns-clause-goes_on : goal.returns-clause-goes_on
returns-clause-goes_on c = λ units.
    then_on (AtLine (position_view units c.args.body.now)) (AtLine (position_view units c.take_empty.new.body)) (AtLine (position_view units c.take_step.new.body)) c.args.tokens.now _
    c.in_ok-before.before c.in_ok-taken.taken c.split_at.ensures.back (c.in_ok-before.ensures.goes_on units) (c.in_ok-taken.ensures.goes_on units)
