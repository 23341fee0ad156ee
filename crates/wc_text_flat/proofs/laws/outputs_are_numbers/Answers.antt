use Rattle.wc_text_flat.proofs.Outputs.{outputs_are_numbers}
use Rattle.wc_text_flat.proofs.laws.outputs_are_numbers.Goals as goal

pub returns : goal.returns
returns c = outputs_are_numbers
