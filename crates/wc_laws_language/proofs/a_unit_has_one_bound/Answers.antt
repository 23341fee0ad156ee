use Rattle.wc_laws_language.proofs.a_unit_has_one_bound.Goals as goal
use Rattle.wc_laws_language.proofs.OneBound.{one_bound}

pub returns : goal.returns
returns c = one_bound
