use Rattle.std.proofs.Common.{length}
use Rattle.wc_view_decode.proofs.Several.{LeavesRest}
use Rattle.wc_view_decode.proofs.frames.answers_of.Given as goal

-- the answers so far are those before the rest, and there are no others
abbrev pub invariant-loop-rest : goal.invariant-loop-rest
invariant-loop-rest l = LeavesRest l.fn.bytes l.answers.items l.rest

abbrev pub decreases-loop-rest : goal.decreases-loop-rest
decreases-loop-rest l = length l.rest
