use Rattle.wc_examples_language.proofs.Loads.{one_too_many}
use Rattle.wc_examples_language.proofs.reading_faults.one_line_too_many.Goals as goal

pub returns : goal.returns
returns c = one_too_many
