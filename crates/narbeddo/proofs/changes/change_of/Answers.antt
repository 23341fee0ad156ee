use Rattle.narbeddo.proofs.Steps.{[], refl}
use Rattle.narbeddo.proofs.changes.change_of.Goals as goal
use Rattle.wc_scale.proofs.LineSteps.{each_step}
use Rattle.wc_scale.specs.LineCalls.{Change}

pub returns-clause-line : goal.returns-clause-line
returns-clause-line c = each_step (Change c.args.text.now) _ _ [] (c.change.result, c.change.ensures.taken, c.change.ensures.refused, refl)
