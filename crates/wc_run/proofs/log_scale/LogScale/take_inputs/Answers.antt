use Rattle.wc_run.proofs.ScaleRows.{takes_inputs}
use Rattle.wc_run.proofs.log_scale.LogScale.take_inputs.Goals as goal

pub returns-clause-takes : goal.returns-clause-takes
returns-clause-takes g c = takes_inputs c.args.self.now c.inputs.new.self _ c.inputs.ensures.goes
