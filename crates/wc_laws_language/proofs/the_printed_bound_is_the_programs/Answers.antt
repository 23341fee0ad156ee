use Rattle.wc_laws_language.proofs.the_printed_bound_is_the_programs.Goals as goal
use Rattle.wc_laws_language.proofs.OneBound.{printed_bound}

pub returns : goal.returns
returns c = printed_bound
