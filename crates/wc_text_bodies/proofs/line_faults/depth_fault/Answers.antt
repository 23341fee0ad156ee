use Rattle.wc_model.proofs.Common.{[], arith, nat_tests}
use Rattle.wc_text_bodies.proofs.Openings.{length-opened}
use Rattle.wc_text_bodies.proofs.line_faults.depth_fault.Goals as goal

pub returns : goal.returns
returns c = let e = length-opened [] c.args.openings.now in grind (arith, nat_tests, c.refused_if.ensures)
