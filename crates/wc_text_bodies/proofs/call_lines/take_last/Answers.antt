use Rattle.wc_model.specs.Language.Views.{assignment_view}
use Rattle.wc_text_bodies.proofs.CallLists.{takes_last}
use Rattle.wc_text_lines.specs.LineViews.{listed_view}
use Rattle.wc_text_bodies.proofs.call_lines.take_last.Goals as goal

pub returns-clause-ends : goal.returns-clause-ends
returns-clause-ends c = λ some.
    takes_last (listed_view c.args.call.now) (listed_view c.add_argument.new.call) c.args.tokens.now _ (assignment_view c.in-Some.argument) c.in-len5-up.len_at_least
    c.in-Closing-LineEnd.is-0 c.in-Closing-LineEnd.is-1 c.in-Some.ensures c.in_ok-add_argument.ensures
