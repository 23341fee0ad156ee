use Rattle.wc_text_flat.proofs.UnitPaths.{flat_code_has_the_worst_path}
use Rattle.wc_text_flat.proofs.laws.flat_code_has_the_worst_path.Goals as goal

pub returns : goal.returns
returns c = flat_code_has_the_worst_path
