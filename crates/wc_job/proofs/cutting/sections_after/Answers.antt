use Rattle.wc_job.proofs.Partings.{both_found}
use Rattle.wc_job.proofs.cutting.sections_after.Goals as goal
use Rattle.wc_job.specs.Views.{sections_view}
use Rattle.wc_model.specs.Run.JobSections.{whole_lines}

pub returns : goal.returns
returns c =
    both_found (whole_lines c.args.text.now) c.in_ok-plate.plate.section.now c.in_ok-plate.plate.rest.now c.in_ok-programs.programs.section.now c.in_ok-programs.programs.rest.now (sections_view c.with_programs.result) c.in_ok-plate.ensures c.in_ok-programs.ensures c.with_programs.ensures
