use Rattle.wc_model.proofs.Common.{arith, refl, ◌≤◌, ◌^◌, pow_mono}
use Rattle.wc_view_trace.proofs.Bits.{one_more_bit, still_small}
use Rattle.wc_view_trace.proofs.image.bits_at.Goals as goal

pub overflow_mul-bits : goal.overflow_mul-bits
overflow_mul-bits c =
    let few : c.loop-passed.passed ≤ 16 = omega (arith, c.loop-passed-test.true, c.requires.few) in
    let most : 2 ^ c.loop-passed.passed ≤ 2 ^ 16 = pow_mono few in
    omega (arith, c.loop-passed.invariant.small, most)

pub loop-passed-preserved : goal.loop-passed-preserved
loop-passed-preserved c =
    let so_far = c.loop-passed.invariant in record {
      bits = one_more_bit c.args.machine.now c.args.first c.args.count c.loop-passed.passed c.loop-passed.bits c.bit_at.result _ refl c.loop-passed-test.true c.bit_at.ensures.held so_far.bits;
      small = still_small c.loop-passed.passed c.loop-passed.bits c.bit_at.result so_far.small c.bit_at.ensures.bit;
    }
