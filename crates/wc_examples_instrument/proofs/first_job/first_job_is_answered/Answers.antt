use Rattle.wc_examples_instrument.proofs.FirstProgram.{first_answer}
use Rattle.wc_examples_instrument.proofs.first_job.first_job_is_answered.Goals as goal

pub returns : goal.returns
returns c = first_answer
