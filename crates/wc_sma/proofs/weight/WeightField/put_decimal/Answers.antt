use Rattle.wc_model.proofs.Common.{◌/◌, ◌<◌, ◌≤◌, ◌++◌, length, ap, ◌∙◌, length-append, arith, decimal, decimal_nonempty}
use Rattle.wc_sma.proofs.Digits.{more_digits, one_digit}
use Rattle.wc_sma.proofs.weight.WeightField.put_decimal.Goals as goal

pub put-requires : goal.put-requires
put-requires c = omega (
  arith,
  c.requires,
  ap length c.loop-rest.invariant,
  length-append (decimal c.loop-rest.rest) c.loop-rest.self,
  length-append (decimal c.args.number) c.args.self.now,
  decimal_nonempty c.loop-rest.rest (omega (arith, c.loop-rest.auto.rest-fits)),
)

pub loop-rest-preserved : goal.loop-rest-preserved
loop-rest-preserved c =
    let several : 10 ≤ c.loop-rest.rest = omega (arith, c.loop-rest-test.true) in
    ap (λ t. decimal (c.loop-rest.rest / 10) ++ t) c.put.ensures
    ∙ more_digits c.loop-rest.rest c.loop-rest.self several (omega (arith, c.loop-rest.auto.rest-fits))
    ∙ c.loop-rest.invariant

pub put-requires-2 : goal.put-requires-2
put-requires-2 c = omega (
  arith,
  c.requires,
  ap length c.loop-rest.invariant,
  length-append (decimal c.loop-rest.rest) c.loop-rest.self,
  length-append (decimal c.args.number) c.args.self.now,
  decimal_nonempty c.loop-rest.rest (omega (arith, c.loop-rest.auto.rest-fits)),
)

pub returns : goal.returns
returns c =
    let one : c.loop-rest.rest < 10 = omega (arith, c.loop-rest-test.false) in
    c.put-2.ensures ∙ one_digit c.loop-rest.rest c.loop-rest.self one ∙ c.loop-rest.invariant
