use Rattle.std.proofs.Common.{◌≡◌, false, length, ◌-◌}
use Rattle.std.specs.Io.KnownBytes.{Keeps}
use Rattle.wc_devices.specs.Inside.{taken}
use Rattle.wc_devices.proofs.output_buffer.OutputBuffer.give_all.Given as goal

abbrev pub invariant-loop-self : goal.invariant-loop-self
invariant-loop-self g l = Keeps (taken g.D.Write.contents l.initial.self) (taken g.D.Write.contents l.self) × (l.self.capacity ≡ l.initial.self.capacity) × (l.self.failed ≡ false)

abbrev pub decreases-loop-self : goal.decreases-loop-self
decreases-loop-self g l = length l.self.buffered.items - l.self.given
