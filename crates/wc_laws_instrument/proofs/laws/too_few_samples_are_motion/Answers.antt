use Rattle.wc_laws_instrument.proofs.Indication.{too_few_samples}
use Rattle.wc_laws_instrument.proofs.laws.too_few_samples_are_motion.Goals as goal

pub returns : goal.returns
returns c = too_few_samples
