use Rattle.narbeddo.proofs.Steps.{[], refl}
use Rattle.narbeddo.proofs.changes.load_of.Goals as goal
use Rattle.wc_scale.proofs.LineSteps.{each_step}
use Rattle.wc_scale.specs.LineCalls.{Load}

pub returns-clause-line : goal.returns-clause-line
returns-clause-line c = each_step (Load c.args.text.now) _ _ [] (c.load.result, c.load.ensures.taken, c.load.ensures.refused, refl)
