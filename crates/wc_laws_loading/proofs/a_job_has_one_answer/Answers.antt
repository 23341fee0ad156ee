use Rattle.wc_laws_loading.proofs.JobLaws.{one_answer}
use Rattle.wc_laws_loading.proofs.a_job_has_one_answer.Goals as goal

pub returns : goal.returns
returns c = one_answer
