use Rattle.wc_model.proofs.Common.{◌≡◌, ◌/◌, ◌^◌, ◌++◌, length, ap, ◌∙◌, append-nil, length-append, arith, to_z, of_z, w32, ints}
use Rattle.std.specs.Prelude.{pos, ◌<ℤ◌, unsigned_abs, decimal}
use Rattle.wc_model.specs.Instrument.Answers.{fraction_text, minus_of}
use Rattle.wc_laws_instrument.proofs.Answers.{length_value, length_three}
use Rattle.wc_sma.proofs.Digits.{minus_below_zero}
use Rattle.wc_sma.proofs.weight.WeightField.put_value.Goals as goal

pub put_decimal-requires : goal.put_decimal-requires
put_decimal-requires c =
    let raw : to_z w32 (of_z w32 c.args.value) ≡ c.args.value = omega (arith, ints) in
    let size : c.unsigned_abs-magnitude.result ≡ unsigned_abs c.args.value = c.unsigned_abs-magnitude.ensures.value ∙ ap unsigned_abs raw in
    let whole : c.digits_before.result ≡ unsigned_abs c.args.value / 10 ^ c.args.decimals = c.digits_before.ensures ∙ (λ i. size i / 10 ^ c.args.decimals) in
    let following : c.put_fraction.new.self ≡ fraction_text c.args.decimals (unsigned_abs c.args.value) =
    c.put_fraction.ensures ∙ (λ i. fraction_text c.args.decimals (size i) ++ c.requires.empty i) ∙ append-nil (fraction_text c.args.decimals (unsigned_abs c.args.value)) in
    omega (
      arith,
      ap (λ n. length (decimal n)) whole,
      ap length following,
      length_three (minus_of c.args.value) (decimal (unsigned_abs c.args.value / 10 ^ c.args.decimals)) (fraction_text c.args.decimals (unsigned_abs c.args.value)),
      length_value c.args.decimals c.args.value c.requires.few c.requires.short,
    )

pub put-requires : goal.put-requires
put-requires c =
    let raw : to_z w32 (of_z w32 c.args.value) ≡ c.args.value = omega (arith, ints) in
    let low : c.args.value <ℤ pos 0 = omega (arith, ints) in
    let size : c.unsigned_abs-magnitude.result ≡ unsigned_abs c.args.value = c.unsigned_abs-magnitude.ensures.value ∙ ap unsigned_abs raw in
    let whole : c.digits_before.result ≡ unsigned_abs c.args.value / 10 ^ c.args.decimals = c.digits_before.ensures ∙ (λ i. size i / 10 ^ c.args.decimals) in
    let following : c.put_fraction.new.self ≡ fraction_text c.args.decimals (unsigned_abs c.args.value) =
    c.put_fraction.ensures ∙ (λ i. fraction_text c.args.decimals (size i) ++ c.requires.empty i) ∙ append-nil (fraction_text c.args.decimals (unsigned_abs c.args.value)) in
    omega (
      arith,
      ap (λ n. length (decimal n)) whole,
      ap length following,
      ap length c.put_decimal.ensures,
      length-append (decimal c.digits_before.result) c.put_fraction.new.self,
      minus_below_zero c.args.value low,
      length_three (minus_of c.args.value) (decimal (unsigned_abs c.args.value / 10 ^ c.args.decimals)) (fraction_text c.args.decimals (unsigned_abs c.args.value)),
      length_value c.args.decimals c.args.value c.requires.few c.requires.short,
    )
