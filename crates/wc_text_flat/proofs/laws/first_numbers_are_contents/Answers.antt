use Rattle.wc_text_flat.proofs.Images.{first_numbers_are_contents}
use Rattle.wc_text_flat.proofs.laws.first_numbers_are_contents.Goals as goal

pub returns : goal.returns
returns c = first_numbers_are_contents
