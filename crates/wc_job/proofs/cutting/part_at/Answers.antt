use Rattle.std.proofs.Common.{arith, length, length-append, ap, sym, ◌∙◌}
use Rattle.wc_job.proofs.Partings.{found_further}
use Rattle.wc_job.proofs.cutting.part_at.Goals as goal
use Rattle.wc_job.specs.Views.{heading_view}

pub loop-start-preserved : goal.loop-start-preserved
loop-start-preserved c = record {
  within = omega (arith, ap length c.first_line.ensures.whole, length-append c.first_line.result.0.now c.first_line.result.1.now, c.split_at.ensures.back_len);
  found = found_further (heading_view c.args.heading) c.args.text.now c.split_at.result.0.now c.split_at.result.1.now c.first_line.result.0.now c.first_line.result.1.now c.loop-start.start c.loop-start.invariant.found c.split_at.ensures.front c.split_at.ensures.back c.split_at.ensures.front_len c.split_at.ensures.by_index.0 c.first_line.ensures.whole (omega (arith, c.split_at.ensures.back_len, c.loop-start-test.true)) c.first_line.ensures.line (sym c.is_heading.ensures ∙ c.if-is_heading.false);
}
