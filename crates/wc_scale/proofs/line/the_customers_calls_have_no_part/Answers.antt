use Rattle.wc_scale.proofs.LineCalls.{no_part}
use Rattle.wc_scale.proofs.line.the_customers_calls_have_no_part.Goals as goal

pub returns : goal.returns
returns c = no_part
