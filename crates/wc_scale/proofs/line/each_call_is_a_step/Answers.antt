use Rattle.wc_scale.proofs.LineSteps.{each_step}
use Rattle.wc_scale.proofs.line.each_call_is_a_step.Goals as goal

pub returns : goal.returns
returns c = each_step
