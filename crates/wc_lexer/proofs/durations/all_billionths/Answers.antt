use Rattle.wc_model.proofs.Common.{arith, ◌∙◌, ◌+◌, None, ap, subst, sym, option_and_then, common_steps}
use Rattle.wc_lexer.proofs.PartSums.{text_all, text_unfit}
use Rattle.wc_lexer.proofs.durations.all_billionths.Goals as goal
use Rattle.wc_lexer.specs.Numbers.{IsParsedPart, within_64_bits}
use Rattle.wc_laws_grammar.proofs.DurationParts.{part}

pub returns : goal.returns
returns c =
    text_all c.args.text.now c.first_part.result.0.now c.first_part.result.1.now c.first_part.result.2.now c.is_last.result c.in_ok-first.first c.later_billionths.result c.sum.result c.first_part.ensures.first (subst (IsParsedPart (part c.first_part.result.0.now c.first_part.result.1.now)) c.in_ok-first.was c.parse_duration_part.ensures) c.is_last.ensures (sym c.may_occur_first.ensures ∙ c.if-not-may_occur_first.false) c.later_billionths.ensures (c.sum.ensures ∙ ap (option_and_then (λ more. within_64_bits (c.in_ok-first.first.billionths + more))) (sym c.in_ok-later_billionths.was))

pub returns-in_err-later_billionths : goal.returns-in_err-later_billionths
returns-in_err-later_billionths c =
    rw c.from_residual-in_err-later_billionths.ensures (text_all c.args.text.now c.first_part.result.0.now c.first_part.result.1.now c.first_part.result.2.now c.is_last.result c.in_ok-first.first c.later_billionths.result None c.first_part.ensures.first (subst (IsParsedPart (part c.first_part.result.0.now c.first_part.result.1.now)) c.in_ok-first.was c.parse_duration_part.ensures) c.is_last.ensures (sym c.may_occur_first.ensures ∙ c.if-not-may_occur_first.false) c.later_billionths.ensures (ap (option_and_then (λ more. within_64_bits (c.in_ok-first.first.billionths + more))) (sym c.in_err-later_billionths.was)))

pub returns-then-not-may_occur_first : goal.returns-then-not-may_occur_first
returns-then-not-may_occur_first c =
    text_unfit c.args.text.now c.first_part.result.0.now c.first_part.result.1.now c.first_part.result.2.now c.is_last.result c.in_ok-first.first c.first_part.ensures.first (subst (IsParsedPart (part c.first_part.result.0.now c.first_part.result.1.now)) c.in_ok-first.was c.parse_duration_part.ensures) c.is_last.ensures (sym c.may_occur_first.ensures ∙ c.if-not-may_occur_first.true)

pub returns-in_err-first : goal.returns-in_err-first
returns-in_err-first c = rw c.from_residual.ensures (grind (arith, common_steps))
