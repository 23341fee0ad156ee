use Rattle.wc_laws_language.proofs.Carrying.{kept_by_itself}
use Rattle.wc_laws_language.proofs.soundness.a_text_for_itself_is_no_change.Goals as goal

pub returns : goal.returns
returns c = kept_by_itself
