use Rattle.wc_text_flat.proofs.Held.{held_numbers_stay_held}
use Rattle.wc_text_flat.proofs.laws.held_numbers_stay_held.Goals as goal

pub returns : goal.returns
returns c = held_numbers_stay_held
