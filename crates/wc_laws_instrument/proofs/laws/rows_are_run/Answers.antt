use Rattle.wc_laws_instrument.proofs.Changes.{rows_are_run}
use Rattle.wc_laws_instrument.proofs.laws.rows_are_run.Goals as goal

pub returns : goal.returns
returns c = rows_are_run
