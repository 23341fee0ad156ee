use Rattle.wc_scale.proofs.LineCalls.{decided}
use Rattle.wc_scale.proofs.line.legal_calls_decide.Goals as goal

pub returns : goal.returns
returns c = decided
