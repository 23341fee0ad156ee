use Rattle.wc_laws_loading.proofs.LoadLaws.{never_both}
use Rattle.wc_laws_loading.proofs.what_is_loaded_is_not_refused.Goals as goal

pub returns : goal.returns
returns c = never_both
