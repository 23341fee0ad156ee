use Rattle.wc_model.proofs.Common.{arith, common_steps}
use Rattle.wc_diag_places.proofs.arguments.mark_after.Goals as goal
use Rattle.wc_diag_places.specs.Lists.{mark_after}

pub returns-clause-mark : goal.returns-clause-mark
unfolding mark_after
returns-clause-mark c = grind (arith, common_steps)
