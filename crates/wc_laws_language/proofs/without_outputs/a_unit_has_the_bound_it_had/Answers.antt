use Rattle.wc_laws_language.proofs.PathsBefore.{same_longest}
use Rattle.wc_laws_language.proofs.without_outputs.a_unit_has_the_bound_it_had.Goals as goal

pub returns : goal.returns
returns c = same_longest
