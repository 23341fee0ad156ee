-- The worst path is computed, and is the worst by the law.
use Rattle.std.proofs.Common.{refl}
use Rattle.wc_examples_language.proofs.paths.worst_path_takes_the_next_line.Goals as goal
use Rattle.wc_examples_language.specs.PathScopes.{paths_scope}
use Rattle.wc_laws_language.proofs.Longest.{computed_is_worst, computed_lines, longest_of_worst}

pub returns-clause-longest : goal.returns-clause-longest
returns-clause-longest c = longest_of_worst paths_scope _ (computed_is_worst paths_scope _ refl)

pub returns-clause-lines : goal.returns-clause-lines
returns-clause-lines c = computed_lines paths_scope _ refl
