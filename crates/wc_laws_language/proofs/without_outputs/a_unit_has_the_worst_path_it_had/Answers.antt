use Rattle.wc_laws_language.proofs.WorstPaths.{same_worst_path}
use Rattle.wc_laws_language.proofs.without_outputs.a_unit_has_the_worst_path_it_had.Goals as goal

pub returns : goal.returns
returns c = same_worst_path
