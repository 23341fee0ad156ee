use Rattle.wc_job.proofs.Partings.{next_found}
use Rattle.wc_job.proofs.cutting.with_programs.Goals as goal

pub returns-in-Some : goal.returns-in-Some
returns-in-Some c =
    next_found c.args.plate.now c.args.between.now c.in-Some.cut.section.now c.in-Some.cut.rest.now c.args.log.now c.in-Some.ensures
