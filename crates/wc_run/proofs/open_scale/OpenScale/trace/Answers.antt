use Rattle.wc_run.proofs.Scans.{scans, sees}
use Rattle.wc_run.proofs.open_scale.OpenScale.trace.Goals as goal

pub returns-in-Some-clause-scans : goal.returns-in-Some-clause-scans
returns-in-Some-clause-scans g c =
    scans c.args.self.now c.in-Some.machine c.trace_at.new.machine c.args.ms c.image-image.result c.trace_at.result.0 c.in-Some.is c.image-image.ensures.reported c.trace_at.ensures.leaves
    c.trace_at.ensures.records c.trace_at.ensures.within c.trace_at.ensures.ends

pub returns-in-Some-clause-seen : goal.returns-in-Some-clause-seen
returns-in-Some-clause-seen g c =
    sees c.args.self.now c.in-Some.machine c.args.ms c.image-image.result c.trace_at.result.1 c.in-Some.is c.image-image.ensures.reported c.trace_at.ensures.seen
