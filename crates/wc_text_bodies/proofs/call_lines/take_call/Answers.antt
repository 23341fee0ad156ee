use Rattle.wc_model.proofs.Common.{◌<◌, arith, nat_tests}
use Rattle.wc_text_bodies.proofs.CallLists.{takes_call}
use Rattle.wc_text_lines.specs.LineViews.{listed_view}
use Rattle.wc_text_bodies.specs.Views.{position_view}
use Rattle.wc_text_bodies.proofs.call_lines.take_call.Goals as goal

pub returns-in_ok-add_step-in-Some-clause-goes_on : goal.returns-in_ok-add_step-in-Some-clause-goes_on
returns-in_ok-add_step-in-Some-clause-goes_on c = λ units.
    let some : 0 < c.in_ok-taken-in-Some.taken = grind (arith, nat_tests, c.if-taken-eq0.false) in
    takes_call (position_view units c.args.body.now) (position_view units c.add_step.new.body) c.args.tokens.now _ _ (listed_view c.in-Some.call) (listed_view c.take_list.new.call)
    c.in_ok-taken-in-Some.taken c.in-len4-up.len_at_least c.split_at.ensures.back (c.in-Some.ensures units) (c.in_ok-taken-in-Some.ensures.ends some)
    (c.in_ok-add_step-in-Some.ensures.following units)
