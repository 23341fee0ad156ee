use Rattle.wc_laws_instrument.proofs.CutLogs.{can_be_cut}
use Rattle.wc_laws_instrument.proofs.laws.logs_can_be_cut.Goals as goal

pub returns : goal.returns
returns c = can_be_cut
