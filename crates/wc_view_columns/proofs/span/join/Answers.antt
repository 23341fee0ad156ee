use Rattle.std.proofs.Common.{◌∙◌, sym}
use Rattle.wc_view_columns.proofs.Joined.{both_spans}
use Rattle.wc_view_columns.proofs.span.join.Goals as goal

pub returns-in-Some-Some-clause-both : goal.returns-in-Some-Some-clause-both
returns-in-Some-Some-clause-both c numbers others first second =
    both_spans numbers others c.in-Some-Some.earlier c.in-Some-Some.later c.merge.result (sym c.in-Some-Some.is-0 ∙ first) (sym c.in-Some-Some.is-1 ∙ second)
    c.merge.ensures.least c.merge.ensures.greatest c.merge.ensures.last
