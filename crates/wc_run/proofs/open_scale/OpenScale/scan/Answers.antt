use Rattle.wc_run.proofs.Scans.{scans}
use Rattle.wc_run.proofs.open_scale.OpenScale.scan.Goals as goal

pub returns-in-Some-clause-scans : goal.returns-in-Some-clause-scans
returns-in-Some-clause-scans g c =
    scans c.args.self.now c.in-Some.machine c.scan_at.new.machine c.args.ms c.image-image.result c.scan_at.result c.in-Some.is c.image-image.ensures.reported c.scan_at.ensures.leaves
    c.scan_at.ensures.records c.scan_at.ensures.within c.scan_at.ensures.ends
