use Rattle.wc_laws_language.proofs.Unchanged.{same_call}
use Rattle.wc_laws_language.proofs.without_outputs.a_call_means_what_it_did.Goals as goal

pub returns : goal.returns
returns c = same_call
