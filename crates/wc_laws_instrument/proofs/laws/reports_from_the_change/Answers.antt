use Rattle.wc_laws_instrument.proofs.Changes.{reports_from_the_change}
use Rattle.wc_laws_instrument.proofs.laws.reports_from_the_change.Goals as goal

pub returns : goal.returns
returns c = reports_from_the_change
