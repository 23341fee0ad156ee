use Rattle.wc_laws_loading.proofs.LoadLaws.{one_loaded}
use Rattle.wc_laws_loading.proofs.one_loaded_text.Goals as goal

pub returns : goal.returns
returns c = one_loaded
