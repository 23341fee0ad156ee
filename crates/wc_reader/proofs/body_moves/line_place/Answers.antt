use Rattle.std.proofs.Common.{ap}
use Rattle.wc_laws_grammar.specs.Moves as moves
use Rattle.wc_reader.proofs.body_moves.line_place.Goals as goal

pub returns-in_ok-add_label-in-LabelAlone-clause-following : goal.returns-in_ok-add_label-in-LabelAlone-clause-following
returns-in_ok-add_label-in-LabelAlone-clause-following c = λ units. rw c.in-LabelAlone.is (ap moves.AtLine (c.in_ok-add_label-in-LabelAlone.ensures.following units))
