use Rattle.wc_text_flat.proofs.Texts.{flat_code_scans_the_text}
use Rattle.wc_text_flat.proofs.laws.flat_code_scans_the_text.Goals as goal

pub returns : goal.returns
returns c = flat_code_scans_the_text
