use Rattle.wc_diag_mistakes.proofs.Declaring.{FoundBefore}
use Rattle.wc_diag_mistakes.proofs.unreached.block_line.Given as goal

-- what is found so far
abbrev pub invariant-loop-index : goal.invariant-loop-index
invariant-loop-index l = FoundBefore l.tokens l.name l.index l.found
