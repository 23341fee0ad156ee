use Rattle.std.proofs.Common.{sym, ◌∙◌}
use Rattle.wc_lexer.proofs.Fractions.{is_narrow}
use Rattle.wc_lexer.proofs.PlainNumbers.{digits_step}
use Rattle.wc_lexer.proofs.plain_numbers.plain_digits.Goals as goal

pub loop-rest-preserved : goal.loop-rest-preserved
loop-rest-preserved c =
    digits_step c.args.base c.args.text.now c.loop-rest.rest.now c.loop-rest.count c.loop-rest.value c.in-Some.next c.requires c.in-len1-up.len_at_least (sym c.is_digit.ensures ∙ c.if-not-is_digit.false)
    (is_narrow _ c.in-Some.next c.in-Some.ensures) c.loop-rest.invariant
