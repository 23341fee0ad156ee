use Rattle.std.proofs.Common.{ap, sym, ◌∙◌, ◌≤◌, ℕ, IfSome, None, Some, option_map, refl, subst}
use Rattle.std.specs.List.{list_any}
use Rattle.wc_lexer.proofs.PartSums.{part_parsed, whole_parsed}
use Rattle.wc_lexer.specs.Numbers.{parsed_fraction, part_by}
use Rattle.wc_lexer.specs.declared.durations.ParsedPart.{ParsedPart}
use Rattle.wc_model.specs.Text.Characters.{is_point}
use Rattle.wc_lexer.proofs.durations.parse_duration_part.Goals as goal

pub returns : goal.returns
returns c =
    let made : ℕ → ParsedPart = λ n. record { milliseconds = c.in_ok-unit.unit.milliseconds; below = c.in_ok-unit.unit.below; whole = c.in_ok-whole.whole; has_point = c.has_point.result; billionths = n } in
    part_parsed (record { number = c.args.number.now; letters = c.args.letters.now }) c.in_ok-unit.unit c.unit_named.result c.whole.result c.fraction_of.result c.has_point.result (Some (made c.in_ok-billionths.billionths)) c.unit_named.ensures.named c.in_ok-unit.was (subst (λ o. IfSome o (λ unit. 1 ≤ unit.milliseconds)) c.in_ok-unit.was c.unit_named.ensures.positive) (c.whole.ensures ∙ ap whole_parsed c.before_point.ensures) c.fraction_of.ensures c.has_point.ensures
    (ap (option_map made) (sym c.in_ok-billionths.was ∙ c.billionths.ensures) ∙ ap (λ o. part_by c.in_ok-unit.unit (Some c.in_ok-whole.whole) o c.has_point.result) (sym c.in_ok-fraction.was) ∙ ap (λ o. part_by c.in_ok-unit.unit o c.fraction_of.result c.has_point.result) (sym c.in_ok-whole.was))

pub returns-in_err-whole : goal.returns-in_err-whole
returns-in_err-whole c =
    rw c.from_residual-in_err-whole.ensures (part_parsed (record { number = c.args.number.now; letters = c.args.letters.now }) c.in_ok-unit.unit c.unit_named.result c.whole.result (parsed_fraction c.args.number.now) (list_any is_point c.args.number.now) None c.unit_named.ensures.named c.in_ok-unit.was (subst (λ o. IfSome o (λ unit. 1 ≤ unit.milliseconds)) c.in_ok-unit.was c.unit_named.ensures.positive) (c.whole.ensures ∙ ap whole_parsed c.before_point.ensures) refl refl
    (ap (λ o. part_by c.in_ok-unit.unit o (parsed_fraction c.args.number.now) (list_any is_point c.args.number.now)) (sym c.in_err-whole.was)))

pub returns-in_err-fraction : goal.returns-in_err-fraction
returns-in_err-fraction c =
    rw c.from_residual-in_err-fraction.ensures (part_parsed (record { number = c.args.number.now; letters = c.args.letters.now }) c.in_ok-unit.unit c.unit_named.result c.whole.result c.fraction_of.result (list_any is_point c.args.number.now) None c.unit_named.ensures.named c.in_ok-unit.was (subst (λ o. IfSome o (λ unit. 1 ≤ unit.milliseconds)) c.in_ok-unit.was c.unit_named.ensures.positive) (c.whole.ensures ∙ ap whole_parsed c.before_point.ensures) c.fraction_of.ensures refl
    (ap (λ o. part_by c.in_ok-unit.unit (Some c.in_ok-whole.whole) o (list_any is_point c.args.number.now)) (sym c.in_err-fraction.was) ∙ ap (λ o. part_by c.in_ok-unit.unit o c.fraction_of.result (list_any is_point c.args.number.now)) (sym c.in_ok-whole.was)))

pub returns-in_err-billionths : goal.returns-in_err-billionths
returns-in_err-billionths c =
    let made : ℕ → ParsedPart = λ n. record { milliseconds = c.in_ok-unit.unit.milliseconds; below = c.in_ok-unit.unit.below; whole = c.in_ok-whole.whole; has_point = (list_any is_point c.args.number.now); billionths = n } in
    rw c.from_residual-in_err-billionths.ensures (part_parsed (record { number = c.args.number.now; letters = c.args.letters.now }) c.in_ok-unit.unit c.unit_named.result c.whole.result c.fraction_of.result (list_any is_point c.args.number.now) None c.unit_named.ensures.named c.in_ok-unit.was (subst (λ o. IfSome o (λ unit. 1 ≤ unit.milliseconds)) c.in_ok-unit.was c.unit_named.ensures.positive) (c.whole.ensures ∙ ap whole_parsed c.before_point.ensures) c.fraction_of.ensures refl
    (ap (option_map made) (sym c.in_err-billionths.was ∙ c.billionths.ensures) ∙ ap (λ o. part_by c.in_ok-unit.unit (Some c.in_ok-whole.whole) o (list_any is_point c.args.number.now)) (sym c.in_ok-fraction.was) ∙ ap (λ o. part_by c.in_ok-unit.unit o c.fraction_of.result (list_any is_point c.args.number.now)) (sym c.in_ok-whole.was)))
