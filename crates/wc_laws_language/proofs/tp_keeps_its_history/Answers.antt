use Rattle.wc_laws_language.proofs.Pulsing.{tp_fits}
use Rattle.wc_laws_language.proofs.tp_keeps_its_history.Goals as goal

pub returns : goal.returns
returns c = tp_fits
