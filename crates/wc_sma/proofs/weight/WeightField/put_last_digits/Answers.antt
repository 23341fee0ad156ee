use Rattle.std.proofs.Common.{◌-◌, ◌/◌, ◌<◌, ◌++◌, length, ap, ◌∙◌, length-append, arith}
use Rattle.wc_model.specs.Instrument.Answers.{last_digits}
use Rattle.wc_laws_instrument.proofs.Answers.{length_last_digits}
use Rattle.wc_sma.proofs.Digits.{one_more_digit}
use Rattle.wc_sma.proofs.weight.WeightField.put_last_digits.Goals as goal

pub put-requires : goal.put-requires
put-requires c = omega (
  arith,
  c.requires,
  c.loop-left-test.true,
  ap length c.loop-left.invariant,
  length-append (last_digits c.loop-left.left c.loop-left.rest) c.loop-left.self,
  length-append (last_digits c.args.count c.args.number) c.args.self.now,
  length_last_digits c.loop-left.left c.loop-left.rest,
  length_last_digits c.args.count c.args.number,
)

pub loop-left-preserved : goal.loop-left-preserved
loop-left-preserved c =
    let more : 0 < c.loop-left.left = omega (arith, c.loop-left-test.true) in
    ap (λ t. last_digits (c.loop-left.left - 1) (c.loop-left.rest / 10) ++ t) c.put.ensures
    ∙ one_more_digit c.loop-left.left c.loop-left.rest c.loop-left.self more
    ∙ c.loop-left.invariant
