use Rattle.wc_laws_language.proofs.Longest.{longest_of_worst}
use Rattle.wc_laws_language.proofs.worst_path_is_longest.Goals as goal

pub returns : goal.returns
returns c = longest_of_worst
