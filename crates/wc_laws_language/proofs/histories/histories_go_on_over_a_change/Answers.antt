use Rattle.wc_laws_language.proofs.Going.{goes_on}
use Rattle.wc_laws_language.proofs.histories.histories_go_on_over_a_change.Goals as goal

pub returns : goal.returns
returns c = goes_on
