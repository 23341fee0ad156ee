use Rattle.std.proofs.Common.{[]}
use Rattle.wc_laws_loading.proofs.Fitting.{tokens_fit}
use Rattle.wc_laws_loading.proofs.tokens_are_few.Goals as goal

pub returns : goal.returns
returns c = λ bytes tokens cut. tokens_fit [] bytes tokens cut
