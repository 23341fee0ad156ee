-- The fields left are those of the step.
use Rattle.std.proofs.Common.{rules}
use Rattle.wc_blocks.proofs.Stepping.{ctu_goes_on}
use Rattle.wc_blocks.proofs.ctu.Ctu.call.Goals as goal
use Rattle.wc_blocks.specs.Views.{ctu_view}

pub returns-clause-history : goal.returns-clause-history
returns-clause-history c = λ calls fits. ctu_goes_on calls (ctu_view c.args.self.now) _ (search rules) fits
