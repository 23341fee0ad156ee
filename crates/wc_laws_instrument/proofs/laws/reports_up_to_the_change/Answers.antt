use Rattle.wc_laws_instrument.proofs.Changes.{reports_up_to_the_change}
use Rattle.wc_laws_instrument.proofs.laws.reports_up_to_the_change.Goals as goal

pub returns : goal.returns
returns c = reports_up_to_the_change
