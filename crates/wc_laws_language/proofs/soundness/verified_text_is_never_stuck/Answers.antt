use Rattle.wc_laws_language.proofs.Texts.{text_is_never_stuck}
use Rattle.wc_laws_language.proofs.soundness.verified_text_is_never_stuck.Goals as goal

pub returns : goal.returns
returns c = text_is_never_stuck
