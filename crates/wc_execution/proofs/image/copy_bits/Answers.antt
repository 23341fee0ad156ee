-- One more bit is written.
use Rattle.wc_model.proofs.Common.{◌≡◌, ◌+◌, ◌<◌, length, length-append, ap, ◌∙◌, arith, rules, slice_set}
use Rattle.wc_execution.proofs.After.{next_written}
use Rattle.wc_execution.proofs.image.copy_bits.Goals as goal
use Rattle.wc_model.specs.Definitions.{bit_number, is_bit_set}

pub loop-bit-preserved : goal.loop-bit-preserved
loop-bit-preserved g c =
    let number : g.S.Store.numbers c.set_truth.new.store ≡ slice_set (g.S.Store.numbers c.loop-bit.store) (c.args.first + c.loop-bit.bit) (bit_number (is_bit_set c.args.bits c.loop-bit.bit)) = search rules in
    record {
      written = λ prefix rest len split.
          let below : c.loop-bit.bit < length rest = omega (arith, c.requires.within, c.loop-bit-test.true, ap length split, length-append prefix rest, len) in
          number ∙ ap (λ ns. slice_set ns (c.args.first + c.loop-bit.bit) (bit_number (is_bit_set c.args.bits c.loop-bit.bit))) (c.loop-bit.invariant.written prefix rest len split)
          ∙ next_written (λ i. bit_number (is_bit_set c.args.bits i)) prefix rest c.args.first c.loop-bit.bit len below;
      size = search rules;
      kinds = c.set_truth.ensures.kinds ∙ c.loop-bit.invariant.kinds;
      moments = λ now before. c.set_truth.ensures.moments now (c.loop-bit.invariant.moments now before);
    }
