use Rattle.wc_model.proofs.Common.{◌≡◌, ◌+◌, [], ◌++◌, drop, ap, ◌∙◌, drop_all}
use Rattle.wc_model.specs.Definitions.{first_broken, body_name_checks, line_view, lines_view}
use Rattle.wc_declare.proofs.Validation.{validates_on, validates_ok}
use Rattle.wc_names.proofs.Lists.{from_index}
use Rattle.wc_declare.proofs.body.validate_body.Goals as goal

pub returns-in_err-validate_line-clause-validated : goal.returns-in_err-validate_line-clause-validated
returns-in_err-validate_line-clause-validated c = λ unit rest block.
    let i = c.loop-line.line-index in
    let items = c.args.lines.now in
    let left = lines_view (drop (i + 1) items) in
    let cut = from_index items i c.line-item.result c.loop-line-test.true c.line-item.is in
    validates_on (Unit {0}) (Unit {0}) (first_broken (body_name_checks unit (lines_view items) ++ rest)) (first_broken (body_name_checks unit (line_view c.line-item.result left) ++ rest)) (first_broken (body_name_checks unit left ++ rest)) (first_broken rest) c.in_err-validate_line.field-0.0 c.from_residual.result c.from_residual.ensures
    (c.loop-line.invariant unit rest block ∙ ap (λ xs. first_broken (body_name_checks unit (lines_view xs) ++ rest)) cut) (c.in_err-validate_line.ensures.validated unit left rest block)

pub loop-line-preserved : goal.loop-line-preserved
loop-line-preserved c = λ unit rest block.
    let i = c.loop-line.line-index in
    let items = c.args.lines.now in
    let left = lines_view (drop (i + 1) items) in
    let cut = from_index items i c.line-item.result c.loop-line-test.true c.line-item.is in
    c.loop-line.invariant unit rest block ∙ ap (λ xs. first_broken (body_name_checks unit (lines_view xs) ++ rest)) cut
    ∙ validates_ok (first_broken (body_name_checks unit (line_view c.line-item.result left) ++ rest)) (first_broken (body_name_checks unit left ++ rest)) c.validate_line.result c.in_ok-validate_line.field-0 c.in_ok-validate_line.was (c.validate_line.ensures.validated unit left rest block)

pub returns-clause-validated : goal.returns-clause-validated
returns-clause-validated c = λ unit rest block.
    let end : drop c.loop-line.line-index c.args.lines.now ≡ [] = drop_all c.loop-line.line-index c.args.lines.now c.loop-line-test.false in
    c.loop-line.invariant unit rest block ∙ ap (λ xs. first_broken (body_name_checks unit (lines_view xs) ++ rest)) end
