use Rattle.wc_model.proofs.Common.{◌≡◌, ◌+◌, [], ◌++◌, Some, option_map, map, drop, ap, sym, ◌∙◌, drop_all, flat_map}
use Rattle.wc_model.specs.Definitions.{first_broken, body_name_checks, label_checks, operand_checks, term_checks, assignment_view, line_view, lines_view, term_view, word_view}
use Rattle.wc_declare.proofs.Validation.{validates_on, validates_ok, validates_same}
use Rattle.wc_declare.proofs.LineViews.{apply_at, call_at, defer_at, label_first, load_at, store_at}
use Rattle.wc_names.proofs.Lists.{from_index}
use Rattle.wc_declare.proofs.body.+validate_line.Goals as goal

pub returns-in_err-validate_label-clause-validated : goal.returns-in_err-validate_label-clause-validated
returns-in_err-validate_label-clause-validated t c = λ unit others rest block.
    let h = label_first unit c.args.line.now others rest in
    validates_on (Unit {0}) (Unit {0}) (first_broken (body_name_checks unit (line_view c.args.line.now others) ++ rest)) (first_broken (label_checks (option_map word_view c.args.line.now.label) ++ h.following)) (first_broken h.following)
    (first_broken (body_name_checks unit others ++ rest)) c.in_err-validate_label.field-0.0 c.from_residual.result c.from_residual.ensures h.is (c.in_err-validate_label.ensures.validated h.following)

pub returns-in-Load-clause-validated : goal.returns-in-Load-clause-validated
returns-in-Load-clause-validated t c = λ unit others rest block.
    let following = body_name_checks unit others ++ rest in
    let own = term_checks unit (term_view c.in-Load.operand) ++ following in
    validates_same (first_broken (body_name_checks unit (line_view c.args.line.now others) ++ rest)) (first_broken own) (first_broken following) c.validate_operand.result
    (load_at unit c.args.line.now c.in-Load.negated c.in-Load.operand c.in-Load.line others rest (c.in-Some.is ∙ ap Some c.in-Load.is)
    ∙ validates_ok (first_broken (label_checks (option_map word_view c.args.line.now.label) ++ own)) (first_broken own) c.validate_label.result c.in_ok-validate_label.field-0 c.in_ok-validate_label.was (c.validate_label.ensures.validated own))
    (c.validate_operand.ensures.validated unit following block)

pub returns-in-Store-clause-validated : goal.returns-in-Store-clause-validated
returns-in-Store-clause-validated t c = λ unit others rest block.
    let following = body_name_checks unit others ++ rest in
    let own = term_checks unit (term_view c.in-Store.target) ++ following in
    validates_same (first_broken (body_name_checks unit (line_view c.args.line.now others) ++ rest)) (first_broken own) (first_broken following) c.validate_operand-in-Store.result
    (store_at unit c.args.line.now c.in-Store.storing c.in-Store.target c.in-Store.line others rest (c.in-Some.is ∙ ap Some c.in-Store.is)
    ∙ validates_ok (first_broken (label_checks (option_map word_view c.args.line.now.label) ++ own)) (first_broken own) c.validate_label.result c.in_ok-validate_label.field-0 c.in_ok-validate_label.was (c.validate_label.ensures.validated own))
    (c.validate_operand-in-Store.ensures.validated unit following block)

pub returns-in-Apply-clause-validated : goal.returns-in-Apply-clause-validated
returns-in-Apply-clause-validated t c = λ unit others rest block.
    let following = body_name_checks unit others ++ rest in
    let own = term_checks unit (term_view c.in-Apply.operand) ++ following in
    validates_same (first_broken (body_name_checks unit (line_view c.args.line.now others) ++ rest)) (first_broken own) (first_broken following) c.validate_operand-in-Apply.result
    (apply_at unit c.args.line.now c.in-Apply.operator c.in-Apply.operand c.in-Apply.line others rest (c.in-Some.is ∙ ap Some c.in-Apply.is)
    ∙ validates_ok (first_broken (label_checks (option_map word_view c.args.line.now.label) ++ own)) (first_broken own) c.validate_label.result c.in_ok-validate_label.field-0 c.in_ok-validate_label.was (c.validate_label.ensures.validated own))
    (c.validate_operand-in-Apply.ensures.validated unit following block)

pub returns-in-Call-clause-validated : goal.returns-in-Call-clause-validated
returns-in-Call-clause-validated t c = λ unit others rest block.
    let following = body_name_checks unit others ++ rest in
    let own = flat_map (λ a. term_checks unit a.actual) (map assignment_view c.in-Call.arguments.items) ++ following in
    validates_same (first_broken (body_name_checks unit (line_view c.args.line.now others) ++ rest)) (first_broken (flat_map (λ a. term_checks unit a.actual) (map assignment_view c.deref.result.now) ++ following)) (first_broken following) c.validate_arguments.result
    (call_at unit c.args.line.now c.in-Call.condition c.in-Call.instance c.in-Call.arguments c.in-Call.line others rest (c.in-Some.is ∙ ap Some c.in-Call.is)
    ∙ validates_ok (first_broken (label_checks (option_map word_view c.args.line.now.label) ++ own)) (first_broken own) c.validate_label.result c.in_ok-validate_label.field-0 c.in_ok-validate_label.was (c.validate_label.ensures.validated own)
    ∙ ap (λ xs. first_broken (flat_map (λ a. term_checks unit a.actual) (map assignment_view xs) ++ following)) (sym c.deref.ensures.value))
    (c.validate_arguments.ensures.validated unit following block)

pub returns-in_err-validate_first-in-Defer-clause-validated : goal.returns-in_err-validate_first-in-Defer-clause-validated
returns-in_err-validate_first-in-Defer-clause-validated t c = λ unit others rest block.
    let following = body_name_checks unit others ++ rest in
    let inside = body_name_checks unit (lines_view c.in-Defer.inside.items) ++ following in
    let own = operand_checks unit (option_map term_view c.in-Defer.operand) ++ inside in
    validates_on (Unit {0}) (Unit {0}) (first_broken (body_name_checks unit (line_view c.args.line.now others) ++ rest)) (first_broken own) (first_broken inside) (first_broken following) c.in_err-validate_first-in-Defer.field-0.0 c.from_residual-in_err-validate_first-in-Defer.result c.from_residual-in_err-validate_first-in-Defer.ensures
    (defer_at unit c.args.line.now c.in-Defer.operator c.in-Defer.operand c.in-Defer.inside c.in-Defer.line c.in-Defer.close others rest (c.in-Some.is ∙ ap Some c.in-Defer.is)
    ∙ validates_ok (first_broken (label_checks (option_map word_view c.args.line.now.label) ++ own)) (first_broken own) c.validate_label.result c.in_ok-validate_label.field-0 c.in_ok-validate_label.was (c.validate_label.ensures.validated own))
    (c.in_err-validate_first-in-Defer.ensures.validated unit inside block)

pub returns-in_err-validate_line-in-Defer-clause-validated : goal.returns-in_err-validate_line-in-Defer-clause-validated
returns-in_err-validate_line-in-Defer-clause-validated t c = λ unit others rest block.
    let following = body_name_checks unit others ++ rest in
    let inside = body_name_checks unit (lines_view c.in-Defer.inside.items) ++ following in
    let own = operand_checks unit (option_map term_view c.in-Defer.operand) ++ inside in
    let i = c.loop-inner.inner-index in
    let items = c.deref-inner-items.result.now in
    let left = lines_view (drop (i + 1) items) in
    let cut = from_index items i c.inner-item.result c.loop-inner-test.true c.inner-item.is in
    validates_on (Unit {0}) (Unit {0}) (first_broken (body_name_checks unit (line_view c.args.line.now others) ++ rest)) (first_broken (body_name_checks unit (line_view c.inner-item.result left) ++ following))
    (first_broken (body_name_checks unit left ++ following)) (first_broken following) c.in_err-validate_line-in-Defer.field-0.0 c.from_residual-in_err-validate_line-in-Defer.result c.from_residual-in_err-validate_line-in-Defer.ensures
    (defer_at unit c.args.line.now c.in-Defer.operator c.in-Defer.operand c.in-Defer.inside c.in-Defer.line c.in-Defer.close others rest (c.in-Some.is ∙ ap Some c.in-Defer.is)
    ∙ validates_ok (first_broken (label_checks (option_map word_view c.args.line.now.label) ++ own)) (first_broken own) c.validate_label.result c.in_ok-validate_label.field-0 c.in_ok-validate_label.was (c.validate_label.ensures.validated own)
    ∙ validates_ok (first_broken own) (first_broken inside) c.validate_first.result c.in_ok-validate_first-in-Defer.field-0 c.in_ok-validate_first-in-Defer.was (c.validate_first.ensures.validated unit inside block)
    ∙ ap (λ xs. first_broken (body_name_checks unit (lines_view xs) ++ following)) (sym c.deref-inner-items.ensures.value) ∙ c.loop-inner.invariant unit following block
    ∙ ap (λ xs. first_broken (body_name_checks unit (lines_view xs) ++ following)) cut)
    (c.in_err-validate_line-in-Defer.ensures.validated unit left following block)

pub loop-inner-preserved : goal.loop-inner-preserved
loop-inner-preserved t c = λ unit rest block.
    let i = c.loop-inner.inner-index in
    let items = c.deref-inner-items.result.now in
    let left = lines_view (drop (i + 1) items) in
    let cut = from_index items i c.inner-item.result c.loop-inner-test.true c.inner-item.is in
    c.loop-inner.invariant unit rest block ∙ ap (λ xs. first_broken (body_name_checks unit (lines_view xs) ++ rest)) cut
    ∙ validates_ok (first_broken (body_name_checks unit (line_view c.inner-item.result left) ++ rest)) (first_broken (body_name_checks unit left ++ rest)) c.validate_line.result c.in_ok-validate_line-in-Defer.field-0 c.in_ok-validate_line-in-Defer.was
    (c.validate_line.ensures.validated unit left rest block)

pub returns-after-loop-inner-clause-validated : goal.returns-after-loop-inner-clause-validated
returns-after-loop-inner-clause-validated t c = λ unit others rest block.
    let following = body_name_checks unit others ++ rest in
    let inside = body_name_checks unit (lines_view c.in-Defer.inside.items) ++ following in
    let own = operand_checks unit (option_map term_view c.in-Defer.operand) ++ inside in
    let end : drop c.loop-inner.inner-index c.deref-inner-items.result.now ≡ [] = drop_all c.loop-inner.inner-index c.deref-inner-items.result.now c.loop-inner-test.false in
    defer_at unit c.args.line.now c.in-Defer.operator c.in-Defer.operand c.in-Defer.inside c.in-Defer.line c.in-Defer.close others rest (c.in-Some.is ∙ ap Some c.in-Defer.is)
    ∙ validates_ok (first_broken (label_checks (option_map word_view c.args.line.now.label) ++ own)) (first_broken own) c.validate_label.result c.in_ok-validate_label.field-0 c.in_ok-validate_label.was (c.validate_label.ensures.validated own)
    ∙ validates_ok (first_broken own) (first_broken inside) c.validate_first.result c.in_ok-validate_first-in-Defer.field-0 c.in_ok-validate_first-in-Defer.was (c.validate_first.ensures.validated unit inside block)
    ∙ ap (λ xs. first_broken (body_name_checks unit (lines_view xs) ++ following)) (sym c.deref-inner-items.ensures.value) ∙ c.loop-inner.invariant unit following block
    ∙ ap (λ xs. first_broken (body_name_checks unit (lines_view xs) ++ following)) end
