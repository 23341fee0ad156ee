use Rattle.wc_examples_language.proofs.Loads.{not_too_many}
use Rattle.wc_examples_language.proofs.limits.as_many_lines_as_may_be.Goals as goal

pub returns : goal.returns
returns c = not_too_many
