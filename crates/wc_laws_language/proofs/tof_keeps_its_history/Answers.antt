use Rattle.wc_laws_language.proofs.Delaying.{tof_fits}
use Rattle.wc_laws_language.proofs.tof_keeps_its_history.Goals as goal

pub returns : goal.returns
returns c = tof_fits
