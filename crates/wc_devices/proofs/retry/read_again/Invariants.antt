use Rattle.std.specs.Io.KnownBytes.{Keeps}
use Rattle.wc_devices.proofs.retry.read_again.Given as goal

abbrev pub invariant-tries : goal.invariant-tries
invariant-tries g l = Keeps (g.D.Read.remaining l.fn.reader) (g.D.Read.remaining l.reader)

abbrev pub decreases-tries : goal.decreases-tries
decreases-tries g l = l.attempts.left
