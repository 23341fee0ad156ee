use Rattle.std.proofs.Common.{arith}
use Rattle.wc_diag_spans.proofs.LineCuts.{cut_below, one_line}
use Rattle.wc_diag_spans.proofs.lines.below_line.Goals as goal

pub returns-then-place-text : goal.returns-then-place-text
returns-then-place-text c = cut_below c.args.text.now c.following.result.now c.line_length-place.result c.line_length-place.ensures.first c.if-place-text.true c.following.ensures

pub returns-else-place-text : goal.returns-else-place-text
returns-else-place-text c = one_line c.args.text.now (omega (arith, c.line_length-place.ensures.first))
