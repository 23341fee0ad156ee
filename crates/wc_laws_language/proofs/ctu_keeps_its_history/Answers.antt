use Rattle.wc_laws_language.proofs.Counting.{ctu_fits}
use Rattle.wc_laws_language.proofs.ctu_keeps_its_history.Goals as goal

pub returns : goal.returns
returns c = ctu_fits
