use Rattle.wc_model.proofs.Common.{◌≡◌, ◌+◌, List, [], ◌++◌, Ok, Err, map, drop, refl, sym, ap, subst, ◌∙◌, option_map, drop_all}
use Rattle.wc_model.specs.Definitions.{inside_rules, line_rules, opening_checks, first_broken, PlainLine, NestedLine, kind_after, name_of, assignment_view, line_view, lines_view, term_view, word_view}
use Rattle.wc_model.specs.Language.Tree.{Load, Store, Apply, Negate, Jump, Call, Return, End}
use Rattle.wc_model.specs.declared.tree.Argument.{Argument}
use Rattle.wc_verify.specs.Instructions.{GoesInside, GoesOn, SaysAhead, instr_line}
use Rattle.wc_verify.proofs.InstrLines.{first_seen, inside_fault, inside_line, inside_more, line_apply, line_call, line_defer, line_jump, line_load, line_not, line_return, line_store, none_ahead, same_line, view_instr}
use Rattle.wc_declare.proofs.Validation.{validates_ok}
use Rattle.wc_names.proofs.HandedOn.{propagated}
use Rattle.wc_verify.proofs.Nesting as nesting
use Rattle.wc_verify.proofs.inside.+inside.Goals as goal

pub validate_instr-returns-in-Load : goal.validate_instr-returns-in-Load
validate_instr-returns-in-Load t c = λ scope label following more is ahead.
    same_line scope (instr_line c.args.instr.now label) (PlainLine label c.in-Load.line (Load c.in-Load.negated (term_view c.in-Load.operand))) following c.args.kind more c.load.result (ap (λ i. instr_line i label) c.in-Load.is ∙ line_load c.in-Load.negated c.in-Load.operand c.in-Load.line label)
    (c.load.ensures scope c.args.kind is label following more)

pub validate_instr-returns-in-Store : goal.validate_instr-returns-in-Store
validate_instr-returns-in-Store t c = λ scope label following more is ahead.
    same_line scope (instr_line c.args.instr.now label) (PlainLine label c.in-Store.line (Store c.in-Store.storing (term_view c.in-Store.target))) following c.args.kind more c.store.result (ap (λ i. instr_line i label) c.in-Store.is ∙ line_store c.in-Store.storing c.in-Store.target c.in-Store.line label)
    (c.store.ensures scope is label following more)

pub validate_instr-returns-in-Apply : goal.validate_instr-returns-in-Apply
validate_instr-returns-in-Apply t c = λ scope label following more is ahead.
    same_line scope (instr_line c.args.instr.now label) (PlainLine label c.in-Apply.line (Apply c.in-Apply.operator (term_view c.in-Apply.operand))) following c.args.kind more c.apply.result (ap (λ i. instr_line i label) c.in-Apply.is ∙ line_apply c.in-Apply.operator c.in-Apply.operand c.in-Apply.line label)
    (c.apply.ensures scope is label following more)

pub validate_instr-returns-in-Not : goal.validate_instr-returns-in-Not
validate_instr-returns-in-Not t c = λ scope label following more is ahead.
    same_line scope (instr_line c.args.instr.now label) (PlainLine label c.in-Not.line Negate) following c.args.kind more c.kind_following.result (ap (λ i. instr_line i label) c.in-Not.is ∙ line_not c.in-Not.line label)
    (c.kind_following.ensures scope (PlainLine label c.in-Not.line Negate) following c.args.kind more (c.refuse.ensures.validates _ (first_broken more) (c.validate_truth.ensures c.in-Not.line more)) refl)

pub validate_instr-returns-in-Return : goal.validate_instr-returns-in-Return
validate_instr-returns-in-Return t c = λ scope label following more is ahead.
    same_line scope (instr_line c.args.instr.now label) (PlainLine label c.in-Return.line (Return c.in-Return.condition)) following c.args.kind more c.kind_following-in-Return.result (ap (λ i. instr_line i label) c.in-Return.is ∙ line_return c.in-Return.condition c.in-Return.line label)
    (c.kind_following-in-Return.ensures scope (PlainLine label c.in-Return.line (Return c.in-Return.condition)) following c.args.kind more (c.refuse-in-Return.ensures.validates _ (first_broken more) (c.validate_condition.ensures c.in-Return.line more)) refl)

pub validate_instr-returns-in-Defer : goal.validate_instr-returns-in-Defer
validate_instr-returns-in-Defer t c = λ scope label following more is ahead.
    same_line scope (instr_line c.args.instr.now label) (NestedLine label c.in-Defer.line c.in-Defer.operator (option_map term_view c.in-Defer.operand) (lines_view c.in-Defer.inside.items) c.in-Defer.close) following c.args.kind more c.validate_nested.result (ap (λ i. instr_line i label) c.in-Defer.is ∙ line_defer c.in-Defer.operator c.in-Defer.operand c.in-Defer.inside c.in-Defer.line c.in-Defer.close label)
    (c.validate_nested.ensures scope label following more is)

pub validate_instr-returns-in-Jump : goal.validate_instr-returns-in-Jump
validate_instr-returns-in-Jump t c = λ scope label following more is ahead.
    let same : instr_line c.args.instr.now label ≡ PlainLine label c.in-Jump.line (Jump c.in-Jump.condition (name_of c.in-Jump.label.now)) = ap (λ i. instr_line i label) c.in-Jump.is ∙ line_jump c.in-Jump.condition c.in-Jump.label c.in-Jump.line label in
    same_line scope (instr_line c.args.instr.now label) (PlainLine label c.in-Jump.line (Jump c.in-Jump.condition (name_of c.in-Jump.label.now))) following c.args.kind more c.jump.result same
    (c.jump.ensures scope label following more (subst (λ x. SaysAhead x c.args.is_ahead following) same ahead))

pub validate_instr-returns-in-Call : goal.validate_instr-returns-in-Call
validate_instr-returns-in-Call t c = λ scope label following more is ahead.
    let call = λ (xs : List Argument). PlainLine label c.in-Call.line (Call c.in-Call.condition (name_of c.in-Call.instance.now) (map assignment_view xs)) in
    same_line scope (instr_line c.args.instr.now label) (call c.deref.result.now) following c.args.kind more c.call.result (ap (λ i. instr_line i label) c.in-Call.is ∙ line_call c.in-Call.condition c.in-Call.instance c.in-Call.arguments c.in-Call.line label ∙ ap call (sym c.deref.ensures.value))
    (c.call.ensures scope is label following more)

pub validate_inside_line-returns-in-Some : goal.validate_inside_line-returns-in-Some
validate_inside_line-returns-in-Some t c = λ scope rest more is.
    let line = instr_line c.in-Some.instr (option_map word_view c.args.line.now.label) in
    subst (λ x. GoesInside scope x c.args.kind rest more c.validate_instr.result) (sym (view_instr c.args.line.now c.in-Some.instr rest c.in-Some.is))
    (inside_line scope line rest c.args.kind more c.validate_instr.result (c.validate_instr.ensures scope (option_map word_view c.args.line.now.label) [] (inside_rules scope rest (kind_after scope line c.args.kind) ++ more) is (none_ahead line)))

pub validate_nested-returns-in_err-refuse : goal.validate_nested-returns-in_err-refuse
validate_nested-returns-in_err-refuse t c = λ scope label following more is.
    let term = option_map term_view c.args.operand.now in
    let inside = lines_view c.args.inside.now.items in
    propagated (GoesOn scope (nesting.whole scope label c.args.line c.args.operator term inside c.args.close following c.args.kind more) following c.args.kind more) c.in_err-refuse.field-0.0 c.from_residual.result c.from_residual.ensures
    (nesting.opening_refused scope label c.args.line c.args.operator term inside c.args.close following c.args.kind more c.in_err-refuse.field-0.0
    (c.in_err-refuse.ensures.validates (first_broken (opening_checks scope c.args.line c.args.operator term c.args.kind ++ nesting.within scope label c.args.line c.args.operator term inside c.args.close following c.args.kind more)) (first_broken (nesting.within scope label c.args.line c.args.operator term inside c.args.close following c.args.kind more))
    (c.validate_opening.ensures scope term (c.see_if_any-seen.ensures scope is) c.args.line (nesting.within scope label c.args.line c.args.operator term inside c.args.close following c.args.kind more))))

pub validate_nested-returns : goal.validate_nested-returns
validate_nested-returns t c = λ scope label following more is.
    let term = option_map term_view c.args.operand.now in
    let inside = lines_view c.args.inside.now.items in
    let seen = c.see_if_any-seen.ensures scope is in
    let within = nesting.within scope label c.args.line c.args.operator term inside c.args.close following c.args.kind more in
    let whole = nesting.whole scope label c.args.line c.args.operator term inside c.args.close following c.args.kind more in
    c.kind_following.ensures scope whole following c.args.kind more
    (c.refuse-2.ensures.validates (first_broken (line_rules scope whole following c.args.kind ++ more)) (first_broken more)
    (nesting.closing_found scope label c.args.line c.args.operator term inside c.args.close following c.args.kind more c.opening_kind.result c.in_ok-inner.inner c.validate_closing.result (c.opening_kind.ensures scope term seen)
    (validates_ok (first_broken (opening_checks scope c.args.line c.args.operator term c.args.kind ++ within)) (first_broken within) c.refuse.result c.in_ok-refuse.field-0 c.in_ok-refuse.was
    (c.refuse.ensures.validates (first_broken (opening_checks scope c.args.line c.args.operator term c.args.kind ++ within)) (first_broken within) (c.validate_opening.ensures scope term seen c.args.line within)))
    (c.in_ok-inner.ensures scope (nesting.closing scope label c.args.line c.args.operator term inside c.args.close following c.args.kind more) is)
    c.validate_closing.ensures))
    c.kind_after_operator.ensures

pub validate_nested-returns-in_err-inner : goal.validate_nested-returns-in_err-inner
validate_nested-returns-in_err-inner t c = λ scope label following more is.
    let term = option_map term_view c.args.operand.now in
    let inside = lines_view c.args.inside.now.items in
    let seen = c.see_if_any-seen.ensures scope is in
    let within = nesting.within scope label c.args.line c.args.operator term inside c.args.close following c.args.kind more in
    propagated (GoesOn scope (nesting.whole scope label c.args.line c.args.operator term inside c.args.close following c.args.kind more) following c.args.kind more) c.in_err-inner.field-0.0 c.from_residual-in_err-inner.result c.from_residual-in_err-inner.ensures
    (nesting.inside_refused scope label c.args.line c.args.operator term inside c.args.close following c.args.kind more c.opening_kind.result c.in_err-inner.field-0.0 (c.opening_kind.ensures scope term seen)
    (validates_ok (first_broken (opening_checks scope c.args.line c.args.operator term c.args.kind ++ within)) (first_broken within) c.refuse.result c.in_ok-refuse.field-0 c.in_ok-refuse.was
    (c.refuse.ensures.validates (first_broken (opening_checks scope c.args.line c.args.operator term c.args.kind ++ within)) (first_broken within) (c.validate_opening.ensures scope term seen c.args.line within)))
    (c.in_err-inner.ensures scope (nesting.closing scope label c.args.line c.args.operator term inside c.args.close following c.args.kind more) is))

pub validate_inside-returns-in_err-kind : goal.validate_inside-returns-in_err-kind
validate_inside-returns-in_err-kind t c = λ scope more is.
    let items = c.deref-line-items.result.now in
    let i = c.loop-line.line-index in
    let left = lines_view (drop (i + 1) items) in
    let so_far = subst (λ ls. GoesInside scope (lines_view items) c.args.first ls more (Ok c.loop-line.kind)) (first_seen items i c.line-item.result c.loop-line-test.true c.line-item.is) (c.loop-line.invariant scope more is) in
    propagated (GoesInside scope (lines_view c.args.lines.now.items) c.args.first End more) c.in_err-kind.field-0.0 c.from_residual.result c.from_residual.ensures
    (subst (λ xs. GoesInside scope (lines_view xs) c.args.first End more (Err c.in_err-kind.field-0.0)) c.deref-line-items.ensures.value
    (inside_fault scope (lines_view items) left End c.args.first more c.in_err-kind.field-0.0
    (inside_more scope (lines_view items) (line_view c.line-item.result left) left c.args.first c.loop-line.kind more (Err c.in_err-kind.field-0.0) so_far (c.in_err-kind.ensures scope left more is))))

pub validate_inside-loop-line-preserved : goal.validate_inside-loop-line-preserved
validate_inside-loop-line-preserved t c = λ scope more is.
    let items = c.deref-line-items.result.now in
    let i = c.loop-line.line-index in
    let left = lines_view (drop (i + 1) items) in
    let so_far = subst (λ ls. GoesInside scope (lines_view items) c.args.first ls more (Ok c.loop-line.kind)) (first_seen items i c.line-item.result c.loop-line-test.true c.line-item.is) (c.loop-line.invariant scope more is) in
    inside_more scope (lines_view items) (line_view c.line-item.result left) left c.args.first c.loop-line.kind more (Ok c.in_ok-kind.kind) so_far (c.in_ok-kind.ensures scope left more is)

pub validate_inside-returns : goal.validate_inside-returns
validate_inside-returns t c = λ scope more is.
    let items = c.deref-line-items.result.now in
    let end : drop c.loop-line.line-index items ≡ [] = drop_all c.loop-line.line-index items c.loop-line-test.false in
    subst (λ xs. GoesInside scope (lines_view xs) c.args.first End more (Ok c.loop-line.kind)) c.deref-line-items.ensures.value
    (subst (λ ls. GoesInside scope (lines_view items) c.args.first (lines_view ls) more (Ok c.loop-line.kind)) end (c.loop-line.invariant scope more is))
