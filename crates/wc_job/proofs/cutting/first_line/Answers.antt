use Rattle.std.proofs.Common.{ap, ◌∙◌, drop, take}
use Rattle.wc_job.proofs.FirstLines.{begins_with_line}
use Rattle.wc_job.proofs.cutting.first_line.Goals as goal

pub returns-clause-line : goal.returns-clause-line
returns-clause-line c =
    begins_with_line c.args.text.now c.split_at.result.0.now c.split_at.result.1.now (c.split_at.ensures.front ∙ ap (λ n. take n c.args.text.now) c.line_length.ensures.longest) (c.split_at.ensures.back ∙ ap (λ n. drop n c.args.text.now) c.line_length.ensures.longest)
