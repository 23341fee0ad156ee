use Rattle.wc_model.specs.Language.Views.{assignment_view}
use Rattle.wc_text_bodies.proofs.CallLists.{takes_argument}
use Rattle.wc_text_lines.specs.LineViews.{listed_view}
use Rattle.wc_text_bodies.proofs.call_lines.take_argument.Goals as goal

pub returns-clause-goes_on : goal.returns-clause-goes_on
returns-clause-goes_on c =
    takes_argument (listed_view c.args.call.now) (listed_view c.add_argument.new.call) c.args.tokens.now _ (assignment_view c.in-Some.argument) c.in-len4-up.len_at_least c.in-Comma.is
    c.in-Some.ensures c.in_ok-add_argument.ensures
