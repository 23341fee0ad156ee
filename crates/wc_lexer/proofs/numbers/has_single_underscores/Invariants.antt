use Rattle.std.proofs.Common.{◌≡◌, length}
use Rattle.wc_lexer.proofs.numbers.has_single_underscores.Given as goal
use Rattle.wc_model.specs.Text.Digits.{has_single_underscores}

abbrev pub invariant-loop-rest : goal.invariant-loop-rest
invariant-loop-rest l = has_single_underscores l.rest ≡ has_single_underscores l.text

abbrev pub decreases-loop-rest : goal.decreases-loop-rest
decreases-loop-rest l = length l.rest
