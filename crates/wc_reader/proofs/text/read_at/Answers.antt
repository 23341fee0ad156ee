use Rattle.wc_model.proofs.Common.{arith, common_steps}
use Rattle.wc_reader.proofs.text.read_at.Goals as goal

pub returns-clause-goes_on : goal.returns-clause-goes_on
returns-clause-goes_on c = grind (arith, common_steps)

pub returns-clause-stops : goal.returns-clause-stops
returns-clause-stops c = grind (arith, common_steps)
