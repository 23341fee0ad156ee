use Rattle.std.proofs.Common.{◌≡◌, length}
use Rattle.wc_lexer.proofs.spaces.from_bracket.Given as goal
use Rattle.wc_model.specs.Text.Blanks.{from_bracket}

abbrev pub invariant-loop-rest : goal.invariant-loop-rest
invariant-loop-rest l = from_bracket l.rest ≡ from_bracket l.text

abbrev pub decreases-loop-rest : goal.decreases-loop-rest
decreases-loop-rest l = length l.rest
