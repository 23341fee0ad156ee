use Rattle.wc_laws_loading.proofs.LoadLaws.{loaded_or_refused}
use Rattle.wc_laws_loading.proofs.bytes_are_loaded_or_refused.Goals as goal

pub returns : goal.returns
returns c = loaded_or_refused
