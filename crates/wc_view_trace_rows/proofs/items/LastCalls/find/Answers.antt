use Rattle.wc_model.proofs.Common.{◌∙◌, arith, get_or, take_more}
use Rattle.wc_view_trace_rows.proofs.LastCalls.{marked}
use Rattle.wc_view_trace_rows.proofs.items.LastCalls.find.Goals as goal

pub loop-index-preserved : goal.loop-index-preserved
loop-index-preserved c = record {
  count = c.mark.ensures.count ∙ c.loop-index.invariant.count;
  each = λ place few.
      marked place c.loop-index.index c.args.lines.now _ (get_or c.loop-index.items.items place 0) (get_or c.mark.new.items.items place 0) c.loop-index-test.true
      (take_more c.args.lines.now c.loop-index.index _ c.loop-index-test.true) (c.mark.ensures.marks place (omega (arith, c.loop-index.invariant.count)))
      (c.loop-index.invariant.each place few);
}
