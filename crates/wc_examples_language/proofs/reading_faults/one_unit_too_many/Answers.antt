use Rattle.wc_examples_language.proofs.Blocks.{one_unit_more}
use Rattle.wc_examples_language.proofs.reading_faults.one_unit_too_many.Goals as goal

pub returns : goal.returns
returns c = one_unit_more
