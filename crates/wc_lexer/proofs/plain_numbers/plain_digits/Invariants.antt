use Rattle.std.proofs.Common.{length}
use Rattle.wc_lexer.proofs.PlainNumbers.{Digits}
use Rattle.wc_lexer.proofs.plain_numbers.plain_digits.Given as goal

abbrev pub invariant-loop-rest : goal.invariant-loop-rest
invariant-loop-rest l = Digits l.base l.text l.rest l.count l.value

abbrev pub decreases-loop-rest : goal.decreases-loop-rest
decreases-loop-rest l = length l.rest
