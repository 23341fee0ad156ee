use Rattle.wc_run.proofs.Feeding.{bytes_are_cut_anywhere}
use Rattle.wc_run.proofs.laws.bytes_are_cut_anywhere.Goals as goal

pub returns : goal.returns
returns c = bytes_are_cut_anywhere
