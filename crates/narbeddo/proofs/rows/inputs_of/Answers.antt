use Rattle.narbeddo.proofs.Steps.{[], refl}
use Rattle.narbeddo.proofs.rows.inputs_of.Goals as goal
use Rattle.wc_scale.proofs.LineSteps.{each_step}
use Rattle.wc_scale.specs.LineCalls.{Inputs}

pub returns-clause-line : goal.returns-clause-line
returns-clause-line c = each_step (Inputs c.args.inputs) _ _ [] (c.inputs.result, c.inputs.ensures.taken, c.inputs.ensures.refused, refl)
