use Rattle.std.proofs.Common.{◌∙◌, sym}
use Rattle.wc_lexer.proofs.Fractions.{fraction_none, fraction_some}
use Rattle.wc_lexer.proofs.durations.fraction.Goals as goal

pub returns-in_ok-value_of_digits : goal.returns-in_ok-value_of_digits
returns-in_ok-value_of_digits c =
    fraction_some c.args.text.now c.in_ok-value_of_digits.field-0 c.last_digit_billionths.result c.product.result c.if-text-ge1.true c.if-text-le9.true (sym c.has_digits_alone.ensures ∙ c.if-has_digits_alone.true) (sym c.in_ok-value_of_digits.was ∙ c.value_of_digits.ensures) c.last_digit_billionths.ensures c.product.ensures

pub returns-in_err-value_of_digits : goal.returns-in_err-value_of_digits
returns-in_err-value_of_digits c =
    rw c.from_residual.ensures (fraction_none c.args.text.now c.if-text-ge1.true c.if-text-le9.true (sym c.has_digits_alone.ensures ∙ c.if-has_digits_alone.true) (sym c.in_err-value_of_digits.was ∙ c.value_of_digits.ensures))
