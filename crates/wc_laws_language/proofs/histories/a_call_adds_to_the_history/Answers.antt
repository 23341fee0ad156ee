use Rattle.wc_laws_language.proofs.Going.{adds}
use Rattle.wc_laws_language.proofs.histories.a_call_adds_to_the_history.Goals as goal

pub returns : goal.returns
returns c = adds
