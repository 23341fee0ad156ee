use Rattle.std.specs.Prelude.{⊤}
use Rattle.wc_devices.proofs.retry.open_again.Given as goal

abbrev pub invariant-tries : goal.invariant-tries
invariant-tries l = ⊤

abbrev pub decreases-tries : goal.decreases-tries
decreases-tries l = l.attempts.left
