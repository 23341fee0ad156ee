use Rattle.std.proofs.Common.{length}
use Rattle.wc_lexer.proofs.NamePrefixes.{Passed}
use Rattle.wc_lexer.proofs.prefixes.identifier_prefix.Given as goal

abbrev pub invariant-loop-rest : goal.invariant-loop-rest
invariant-loop-rest l = Passed l.text l.rest l.count l.single

abbrev pub decreases-loop-rest : goal.decreases-loop-rest
decreases-loop-rest l = length l.rest
