use Rattle.wc_model.proofs.Common.{arith, common_steps}
use Rattle.wc_lexer.proofs.numbers.has_single_underscores.Goals as goal

pub returns-then-not-matches : goal.returns-then-not-matches
returns-then-not-matches c = grind (arith, common_steps)

pub loop-rest-preserved : goal.loop-rest-preserved
loop-rest-preserved c = grind (arith, common_steps)
