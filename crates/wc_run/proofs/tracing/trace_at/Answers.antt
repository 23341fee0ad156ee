use Rattle.wc_run.proofs.Scans.{leaves_done}
use Rattle.wc_run.proofs.tracing.trace_at.Goals as goal

pub returns-clause-ends : goal.returns-clause-ends
returns-clause-ends g c = λ text store represents. leaves_done _ text _ _ (c.trace-lines.ensures.means text store represents)
