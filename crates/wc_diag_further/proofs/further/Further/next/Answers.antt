use Rattle.wc_diag_further.proofs.Steps.{from_again, from_not}
use Rattle.wc_diag_further.proofs.further.Further.next.Goals as goal

pub loop-init : goal.loop-init
loop-init c = from_not _

pub loop-preserved : goal.loop-preserved
loop-preserved c = from_again _ _ _ c.loop.invariant c.in_ok-found.ensures.mended

pub returns-in-Some-clause-mended : goal.returns-in-Some-clause-mended
returns-in-Some-clause-mended c = from_again _ _ _ c.loop.invariant c.in_ok-found.ensures.mended
