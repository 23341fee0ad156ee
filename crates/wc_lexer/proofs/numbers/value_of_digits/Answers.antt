use Rattle.std.proofs.Common.{sym, ◌∙◌}
use Rattle.wc_lexer.proofs.Widths.{wide_from}
use Rattle.wc_lexer.proofs.numbers.value_of_digits.Goals as goal

pub returns-in_err-value : goal.returns-in_err-value
returns-in_err-value c =
    rw c.from_residual.ensures (wide_from c.args.base c.loop-rest.value c.loop-rest.rest.now c.args.text.now c.requires c.in-len1-up.len_at_least c.if-first-ne95.true c.loop-rest.invariant.all (sym c.in_err-value.was ∙ c.with_digit.ensures))
