use Rattle.std.proofs.Common.{◌*◌, ◌+◌, ◌^◌, ◌∙◌, ap, sym}
use Rattle.wc_lexer.proofs.Fractions.{is_narrow, wide_product}
use Rattle.wc_lexer.proofs.PartSums.{wide_whole}
use Rattle.wc_lexer.proofs.durations.billionths.Goals as goal
use Rattle.wc_lexer.specs.Numbers.{within_64_bits}

pub returns-in_err-number : goal.returns-in_err-number
returns-in_err-number c =
    rw c.from_residual-in_err-number.ensures (wide_product (c.args.whole * 10 ^ 9 + c.args.fraction) c.args.milliseconds c.requires (sym c.in_err-number.was ∙ c.sum.ensures ∙ ap (λ n. within_64_bits (n + c.args.fraction)) (is_narrow (c.args.whole * 10 ^ 9) c.in_ok-whole.whole (sym c.in_ok-whole.was ∙ c.product.ensures))))

pub returns-in_err-whole : goal.returns-in_err-whole
returns-in_err-whole c = rw c.from_residual.ensures (wide_whole c.args.whole c.args.fraction c.args.milliseconds c.requires (sym c.in_err-whole.was ∙ c.product.ensures))
