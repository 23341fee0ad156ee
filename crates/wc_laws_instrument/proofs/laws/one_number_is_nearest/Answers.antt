use Rattle.wc_laws_instrument.proofs.Rounding.{has_one_nearest}
use Rattle.wc_laws_instrument.proofs.laws.one_number_is_nearest.Goals as goal

pub returns : goal.returns
returns c = has_one_nearest
