use Rattle.narbeddo.proofs.rows.byte_of.Goals as goal
use Rattle.wc_scale.proofs.LineCalls.{without_the_customer}

pub returns-clause-alone : goal.returns-clause-alone
returns-clause-alone c = without_the_customer _ _ _ _ c.byte.ensures.taken c.byte.ensures.refused
