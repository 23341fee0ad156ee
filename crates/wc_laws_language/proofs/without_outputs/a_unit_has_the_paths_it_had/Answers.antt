use Rattle.wc_laws_language.proofs.PathsBefore.{path_for_path}
use Rattle.wc_laws_language.proofs.without_outputs.a_unit_has_the_paths_it_had.Goals as goal

pub returns : goal.returns
returns c = path_for_path
