use Rattle.wc_model.proofs.Common.{arith, common_steps}
use Rattle.wc_lexer.proofs.lengths.mark_length.Goals as goal

pub returns-in-len2-up-clause-longest : goal.returns-in-len2-up-clause-longest
returns-in-len2-up-clause-longest c = grind (arith, common_steps)

pub returns-in-len1-up-clause-longest : goal.returns-in-len1-up-clause-longest
returns-in-len1-up-clause-longest c = grind (arith, common_steps)

pub returns-in_default-clause-longest : goal.returns-in_default-clause-longest
returns-in_default-clause-longest c = grind (arith, common_steps)

pub returns-in_default-2-clause-longest : goal.returns-in_default-2-clause-longest
returns-in_default-2-clause-longest c = grind (arith, common_steps)
