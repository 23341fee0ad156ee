use Rattle.wc_model.proofs.Common.{◌<◌, arith, nat_tests}
use Rattle.wc_text_bodies.proofs.CallLists.{ends_then}
use Rattle.wc_text_lines.specs.LineViews.{listed_view}
use Rattle.wc_text_bodies.proofs.call_lines.take_list.Goals as goal

pub returns-else-last-eq0-clause-ends : goal.returns-else-last-eq0-clause-ends
returns-else-last-eq0-clause-ends c = λ some.
    let last : 0 < c.in_ok-last.last = grind (arith, nat_tests, c.if-last-eq0.false) in
    ends_then (listed_view c.args.call.now) (listed_view c.take_arguments.new.call) (listed_view c.take_last.new.call) c.args.tokens.now _ c.in_ok-before.before c.in_ok-last.last
    c.split_at.ensures.back c.in_ok-before.ensures.goes_on (c.in_ok-last.ensures.ends last)
