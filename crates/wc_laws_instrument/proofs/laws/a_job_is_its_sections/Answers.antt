use Rattle.wc_laws_instrument.proofs.JobParts.{job_is_its_sections}
use Rattle.wc_laws_instrument.proofs.laws.a_job_is_its_sections.Goals as goal

pub returns : goal.returns
returns c = job_is_its_sections
