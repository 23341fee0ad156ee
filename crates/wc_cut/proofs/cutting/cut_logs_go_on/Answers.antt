use Rattle.wc_cut.proofs.CutAgain.{goes_on_from_the_cut}
use Rattle.wc_cut.proofs.cutting.cut_logs_go_on.Goals as goal

pub returns : goal.returns
returns c = goes_on_from_the_cut
