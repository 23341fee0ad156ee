use Rattle.std.proofs.Common.{sym}
use Rattle.wc_run.proofs.ProgramChanges.{is_changed}
use Rattle.wc_run.proofs.open_scale.OpenScale.change.Goals as goal

pub returns-in-Ok-clause-changed : goal.returns-in-Ok-clause-changed
returns-in-Ok-clause-changed g c =
    is_changed c.args.self.now c.in-Some.machine c.in-Ok.machine c.args.next (sym c.in-Some.ensures.value) c.in-Ok.ensures.represents c.in-Ok.ensures.last
