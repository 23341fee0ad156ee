use Rattle.std.proofs.Common.{length, ap, length-append, arith}
use Rattle.wc_model.specs.Instrument.Answers.{last_digits}
use Rattle.wc_laws_instrument.proofs.Answers.{length_last_digits}
use Rattle.wc_sma.proofs.weight.WeightField.put_fraction.Goals as goal

pub put-requires : goal.put-requires
put-requires c =
    omega (
      arith,
      c.requires,
      ap length c.put_last_digits.ensures,
      length-append (last_digits c.args.decimals c.args.number) c.args.self.now,
      length_last_digits c.args.decimals c.args.number,
    )
