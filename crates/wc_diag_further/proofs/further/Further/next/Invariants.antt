use Rattle.wc_diag_further.specs.Further.{IsMendedFrom}
use Rattle.wc_diag_further.proofs.further.Further.next.Given as goal

abbrev pub invariant-loop : goal.invariant-loop
invariant-loop l = IsMendedFrom l.fn.self l.self
