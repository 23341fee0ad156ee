use Rattle.wc_laws_language.proofs.Spelled.{loaded_text_is_never_stuck}
use Rattle.wc_laws_language.proofs.soundness.loaded_text_is_never_stuck.Goals as goal

pub returns : goal.returns
returns c = loaded_text_is_never_stuck
