use Rattle.wc_text_flat.proofs.Depths.{lowered_code_nests}
use Rattle.wc_text_flat.proofs.laws.lowered_code_nests.Goals as goal

pub returns : goal.returns
returns c = lowered_code_nests
