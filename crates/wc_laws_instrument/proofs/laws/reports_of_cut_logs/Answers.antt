use Rattle.wc_laws_instrument.proofs.CutReports.{reports_can_be_cut}
use Rattle.wc_laws_instrument.proofs.laws.reports_of_cut_logs.Goals as goal

pub returns : goal.returns
returns c c' = reports_can_be_cut
