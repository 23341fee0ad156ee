use Rattle.wc_diag_further.specs.Further.{IsMended}
use Rattle.wc_diag_further.proofs.blanks.blank_each.Given as goal

abbrev pub invariant-loop-some : goal.invariant-loop-some
invariant-loop-some l = IsMended l.fn.text l.text
