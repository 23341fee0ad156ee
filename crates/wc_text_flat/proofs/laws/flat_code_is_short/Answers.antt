use Rattle.wc_text_flat.proofs.Shortness.{flat_code_is_short}
use Rattle.wc_text_flat.proofs.laws.flat_code_is_short.Goals as goal

pub returns : goal.returns
returns c = flat_code_is_short
