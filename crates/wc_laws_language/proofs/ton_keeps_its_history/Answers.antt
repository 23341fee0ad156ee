use Rattle.wc_laws_language.proofs.Delaying.{ton_fits}
use Rattle.wc_laws_language.proofs.ton_keeps_its_history.Goals as goal

pub returns : goal.returns
returns c = ton_fits
