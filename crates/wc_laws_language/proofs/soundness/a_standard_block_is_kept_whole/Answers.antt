use Rattle.wc_laws_language.proofs.Carrying.{kept_whole}
use Rattle.wc_laws_language.proofs.soundness.a_standard_block_is_kept_whole.Goals as goal

pub returns : goal.returns
returns c = kept_whole
