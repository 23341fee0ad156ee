use Rattle.wc_laws_language.proofs.UnitBounds.{bounds_of_loaded}
use Rattle.wc_laws_language.proofs.each_loaded_unit_has_a_bound.Goals as goal

pub returns : goal.returns
returns c = bounds_of_loaded
