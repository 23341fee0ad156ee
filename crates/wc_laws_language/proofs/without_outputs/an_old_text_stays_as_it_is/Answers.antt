use Rattle.wc_laws_language.proofs.Declared.{old_text_stays}
use Rattle.wc_laws_language.proofs.without_outputs.an_old_text_stays_as_it_is.Goals as goal

pub returns : goal.returns
returns c = old_text_stays
