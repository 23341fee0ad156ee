use Rattle.wc_model.proofs.Common.{◌≡◌, drop, false, list_any}
use Rattle.wc_diag_mistakes.proofs.Leaving.{decides}
use Rattle.wc_diag_mistakes.proofs.unreached.leaves_in.Given as goal

-- none of the tokens seen decides
abbrev pub invariant-loop-index : goal.invariant-loop-index
invariant-loop-index l = list_any decides (drop l.index l.tokens) ≡ false
