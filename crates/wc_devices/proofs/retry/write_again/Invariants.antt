use Rattle.std.specs.Io.KnownBytes.{Keeps}
use Rattle.wc_devices.proofs.retry.write_again.Given as goal

abbrev pub invariant-tries : goal.invariant-tries
invariant-tries g l = Keeps (g.D.Write.contents l.fn.writer) (g.D.Write.contents l.writer)

abbrev pub decreases-tries : goal.decreases-tries
decreases-tries g l = l.attempts.left
