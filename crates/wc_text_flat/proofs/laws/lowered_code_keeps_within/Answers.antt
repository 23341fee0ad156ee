use Rattle.wc_text_flat.proofs.WithinBounds.{lowered_code_keeps_within}
use Rattle.wc_text_flat.proofs.laws.lowered_code_keeps_within.Goals as goal

pub returns : goal.returns
returns c = lowered_code_keeps_within
