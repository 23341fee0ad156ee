use Rattle.wc_diag_warnings.proofs.WayLaws.{edges_there}
use Rattle.wc_diag_warnings.proofs.laws.edges_are_there.Goals as goal

pub returns : goal.returns
returns c = edges_there
