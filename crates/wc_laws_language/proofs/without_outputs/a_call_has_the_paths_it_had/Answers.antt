use Rattle.wc_model.specs.Language.Paths.{IsBlockPath}
use Rattle.wc_laws_language.proofs.Unchanged.{same_paths}
use Rattle.wc_laws_language.proofs.without_outputs.a_call_has_the_paths_it_had.Goals as goal

pub returns : goal.returns
returns c = λ scope line instance arguments items e. same_paths (IsBlockPath scope.before) scope line instance arguments items e
