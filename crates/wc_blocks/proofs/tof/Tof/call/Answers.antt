-- The fields left are those of the step.
use Rattle.std.proofs.Common.{rules}
use Rattle.wc_blocks.proofs.Stepping.{tof_goes_on}
use Rattle.wc_blocks.proofs.tof.Tof.call.Goals as goal
use Rattle.wc_blocks.specs.Views.{tof_view}

pub returns-else-self-clause-history : goal.returns-else-self-clause-history
returns-else-self-clause-history c =
    λ calls fits. tof_goes_on c.args.now calls (tof_view c.args.self.now) (tof_view c.release.new.self) (search rules) fits
