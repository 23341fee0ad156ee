use Rattle.wc_laws_language.proofs.Spelled.{spelled_text_nests}
use Rattle.wc_laws_language.proofs.soundness.spelled_text_nests_simply.Goals as goal

pub returns : goal.returns
returns c = spelled_text_nests
