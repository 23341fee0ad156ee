use Rattle.std.proofs.Common.{◌+◌, ◌-◌, ◌<◌, ◌^◌}
use Rattle.wc_view_trace.specs.Members.{HasBits}
use Rattle.wc_view_trace.proofs.image.bits_at.Given as goal

-- the bits so far are those of the last places
pub record SoFar (l : goal.Live-loop-passed) : Type 0 where
  pub bits : HasBits l.machine (l.first + (l.count - l.passed)) l.passed l.bits
  pub small : l.bits < 2 ^ l.passed

abbrev pub invariant-loop-passed : goal.invariant-loop-passed
invariant-loop-passed l = SoFar l
