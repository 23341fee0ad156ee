use Rattle.std.proofs.Common.{ap}
use Rattle.wc_laws_grammar.specs.Moves as moves
use Rattle.wc_reader.proofs.moves.section_state.Goals as goal

pub returns-in-AfterSection-clause-following : goal.returns-in-AfterSection-clause-following
returns-in-AfterSection-clause-following c = λ units. rw c.in-AfterSection.is (ap moves.AtLine (c.body_start.ensures.start units))
