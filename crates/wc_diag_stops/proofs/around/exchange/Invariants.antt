use Rattle.std.proofs.Common.{◌≡◌, ◌++◌, drop, map, take}
use Rattle.wc_diag_stops.specs.Stopping.{exchanged}
use Rattle.wc_diag_stops.proofs.around.exchange.Given as goal

abbrev pub invariant-loop-token : goal.invariant-loop-token
invariant-loop-token l = l.tokens ≡ map exchanged (take l.token-index l.fn.tokens) ++ drop l.token-index l.fn.tokens
