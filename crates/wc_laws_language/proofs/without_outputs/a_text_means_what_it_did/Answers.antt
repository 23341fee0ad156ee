use Rattle.wc_laws_language.proofs.MeaningsBefore.{same_scan}
use Rattle.wc_laws_language.proofs.without_outputs.a_text_means_what_it_did.Goals as goal

pub returns : goal.returns
returns c = same_scan
