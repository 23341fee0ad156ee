use Rattle.wc_model.proofs.Common.{arith, ◌∙◌, ◌+◌, None, ap, subst, sym, option_and_then, common_steps}
use Rattle.wc_lexer.proofs.PartSums.{text_later}
use Rattle.wc_lexer.proofs.durations.+later_billionths.Goals as goal
use Rattle.wc_lexer.specs.Numbers.{IsParsedPart, within_64_bits}
use Rattle.wc_laws_grammar.proofs.DurationParts.{part}

pub returns : goal.returns
returns t c =
    text_later c.args.above c.args.text.now c.first_part.result.0.now c.without_separator.result.now c.first_part.result.1.now c.first_part.result.2.now c.is_last.result c.in_ok-first.first c.later_billionths.result c.sum.result c.first_part.ensures.first c.without_separator.ensures (subst (IsParsedPart (part c.without_separator.result.now c.first_part.result.1.now)) c.in_ok-first.was c.parse_duration_part.ensures) c.is_last.ensures (sym c.may_occur_after.ensures ∙ c.if-not-may_occur_after.false) c.later_billionths.ensures (c.sum.ensures ∙ ap (option_and_then (λ more. within_64_bits (c.in_ok-first.first.billionths + more))) (sym c.in_ok-later_billionths.was))

pub returns-in_err-later_billionths : goal.returns-in_err-later_billionths
returns-in_err-later_billionths t c =
    rw c.from_residual-in_err-later_billionths.ensures (text_later c.args.above c.args.text.now c.first_part.result.0.now c.without_separator.result.now c.first_part.result.1.now c.first_part.result.2.now c.is_last.result c.in_ok-first.first c.later_billionths.result None c.first_part.ensures.first c.without_separator.ensures (subst (IsParsedPart (part c.without_separator.result.now c.first_part.result.1.now)) c.in_ok-first.was c.parse_duration_part.ensures) c.is_last.ensures (sym c.may_occur_after.ensures ∙ c.if-not-may_occur_after.false) c.later_billionths.ensures (ap (option_and_then (λ more. within_64_bits (c.in_ok-first.first.billionths + more))) (sym c.in_err-later_billionths.was)))

pub returns-in_err-first : goal.returns-in_err-first
returns-in_err-first t c = rw c.from_residual.ensures (grind (arith, common_steps))
