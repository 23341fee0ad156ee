use Rattle.wc_laws_language.proofs.Runs.{no_run_is_ever_stuck}
use Rattle.wc_laws_language.proofs.soundness.no_run_is_ever_stuck.Goals as goal

pub returns : goal.returns
returns c = no_run_is_ever_stuck
