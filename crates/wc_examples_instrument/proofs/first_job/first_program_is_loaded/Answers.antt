use Rattle.wc_examples_instrument.proofs.FirstProgram.{first_is_loaded}
use Rattle.wc_examples_instrument.proofs.first_job.first_program_is_loaded.Goals as goal

pub returns : goal.returns
returns c = first_is_loaded
