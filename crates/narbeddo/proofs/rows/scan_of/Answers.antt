use Rattle.narbeddo.proofs.Steps.{[], refl}
use Rattle.narbeddo.proofs.rows.scan_of.Goals as goal
use Rattle.wc_scale.proofs.LineSteps.{each_step}
use Rattle.wc_scale.specs.LineCalls.{Scan}

pub returns-clause-line : goal.returns-clause-line
returns-clause-line c = each_step (Scan c.args.moment) _ _ [] (c.scan.result, c.scan.ensures.taken, c.scan.ensures.refused, refl)
