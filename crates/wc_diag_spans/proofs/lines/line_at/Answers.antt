use Rattle.std.proofs.Common.{◌∙◌, ap, arith, Some}
use Rattle.wc_diag_spans.proofs.LineCuts.{first_cut, is_further, line_is, line_is_missing}
use Rattle.wc_diag_spans.proofs.lines.line_at.Goals as goal

pub returns-in-None : goal.returns-in-None
returns-in-None c = line_is_missing c.args.text.now c.args.number c.loop-passed._passed c.loop-passed.rest.now (omega arith) c.loop-passed.invariant c.in-None.ensures

pub loop-passed-preserved : goal.loop-passed-preserved
loop-passed-preserved c = is_further c.args.text.now c.loop-passed._passed c.loop-passed.rest.now c.in-Some.below.now c.loop-passed.invariant c.in-Some.ensures

pub returns : goal.returns
returns c =
    let rest = c.loop-passed.rest.now in
    let first = c.prefix.result.now in
    ap Some c.without_return.ensures
    ∙ line_is c.args.text.now c.args.number c.loop-passed._passed rest first (omega arith) c.loop-passed.invariant
    (first_cut rest first c.line_length.result c.line_length.ensures.first c.line_length.ensures.within c.prefix.ensures)
