-- One more weight is written.
use Rattle.wc_model.proofs.Common.{◌≡◌, ◌+◌, ◌<◌, length, length-append, ap, ◌∙◌, arith, rules, pos, slice_set, slice_index_or}
use Rattle.wc_execution.proofs.After.{next_written}
use Rattle.wc_execution.proofs.image.copy_weights.Goals as goal

pub loop-number-preserved : goal.loop-number-preserved
loop-number-preserved g c =
    let number : g.S.Store.numbers c.set_count.new.store ≡ slice_set (g.S.Store.numbers c.loop-number.store) (c.args.first + c.loop-number.number) (slice_index_or c.args.weights.now c.loop-number.number (pos 0)) = search rules in
    record {
      written = λ prefix rest len split.
          let below : c.loop-number.number < length rest = omega (arith, c.requires.within, c.loop-number-test.true, ap length split, length-append prefix rest, len) in
          number ∙ ap (λ ns. slice_set ns (c.args.first + c.loop-number.number) (slice_index_or c.args.weights.now c.loop-number.number (pos 0))) (c.loop-number.invariant.written prefix rest len split)
          ∙ next_written (λ i. slice_index_or c.args.weights.now i (pos 0)) prefix rest c.args.first c.loop-number.number len below;
      size = search rules;
      kinds = c.set_count.ensures.kinds ∙ c.loop-number.invariant.kinds;
      moments = λ now before. c.set_count.ensures.moments now (c.loop-number.invariant.moments now before);
    }
