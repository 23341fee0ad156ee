use Rattle.std.proofs.Common.{◌≤◌, ◌-◌, length}
use Rattle.wc_job.proofs.Partings.{IsFoundFrom}
use Rattle.wc_job.proofs.cutting.part_at.Given as goal
use Rattle.wc_job.specs.Views.{heading_view}

abbrev pub invariant-loop-start : goal.invariant-loop-start
invariant-loop-start l = record {
  within : l.start ≤ length l.text;
  found : IsFoundFrom (heading_view l.heading) l.text l.start;
}

abbrev pub decreases-loop-start : goal.decreases-loop-start
decreases-loop-start l = length l.text - l.start
