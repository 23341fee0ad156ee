use Rattle.wc_diag_further.proofs.Mended.{mended_again, mended_not}
use Rattle.wc_diag_further.proofs.blanks.blank_each.Goals as goal

pub loop-some-init : goal.loop-some-init
loop-some-init c = mended_not _

pub loop-some-preserved : goal.loop-some-preserved
loop-some-preserved c = mended_again _ _ _ c.loop-some.invariant c.write_blank.ensures
