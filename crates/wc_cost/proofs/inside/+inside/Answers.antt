use Rattle.wc_model.proofs.Common.{◌≡◌, ◌+◌, ◌-◌, ◌≤◌, [], ◌∷◌, List, option_map, map, drop, length, refl, sym, ap, subst, ◌∙◌, arith, drop_all}
use Rattle.wc_text_flat.specs.Lowered.{IsStepLowered}
use Rattle.wc_model.specs.Definitions.{PlainLine, NestedLine, name_of, assignment_view, lines_view, term_view, word_view}
use Rattle.wc_model.specs.Language.Tree.{Load, Store, Apply, Negate, Jump, Call, Return}
use Rattle.wc_model.specs.declared.code.Code.TheVariants as code
use Rattle.wc_model.specs.declared.tree.Argument.{Argument}
use Rattle.wc_model.specs.declared.tree.Line.{Line}
use Rattle.wc_verify.proofs.InstrLines.{line_apply, line_call, line_defer, line_jump, line_load, line_not, line_return, line_store, view_instr, view_none}
use Rattle.wc_verify.specs.Instructions.{instr_line}
use Rattle.wc_cost.proofs.CallsLowered.{on_ok}
use Rattle.wc_names.proofs.Lists.{from_index}
use Rattle.wc_cost.proofs.LinesLowered.{as_line, inside_from, inside_put, label_added, line_added, line_anywhere, nested_added, no_lines_added, one_line}
use Rattle.wc_cost.specs.{IsAhead, IsInsideLowerable, AddsLines}
use Rattle.wc_cost.proofs.inside.+inside.Goals as goal

pub put_instr-returns-in-Load : goal.put_instr-returns-in-Load
put_instr-returns-in-Load t c =
    on_ok c.put.result
    (λ put scope rest label is may.
    as_line scope rest c.args.skip (instr_line c.args.instr.now label) (PlainLine label c.in-Load.line (Load c.in-Load.negated (term_view c.in-Load.operand))) c.args.flat.now c.put.new.self (ap (λ i. instr_line i label) c.in-Load.is ∙ line_load c.in-Load.negated c.in-Load.operand c.in-Load.line label)
    (λ h. one_line (IsStepLowered scope rest (Load c.in-Load.negated (term_view c.in-Load.operand))) c.load.result c.in-Load.line c.args.flat.now c.put.new.self (c.load.ensures scope rest is h.0 h.1) put) may)
    c.put.ensures

pub put_instr-returns-in-Store : goal.put_instr-returns-in-Store
put_instr-returns-in-Store t c =
    on_ok c.put-in-Store.result
    (λ put scope rest label is may.
    as_line scope rest c.args.skip (instr_line c.args.instr.now label) (PlainLine label c.in-Store.line (Store c.in-Store.storing (term_view c.in-Store.target))) c.args.flat.now c.put-in-Store.new.self (ap (λ i. instr_line i label) c.in-Store.is ∙ line_store c.in-Store.storing c.in-Store.target c.in-Store.line label)
    (λ h. one_line (IsStepLowered scope rest (Store c.in-Store.storing (term_view c.in-Store.target))) c.store.result c.in-Store.line c.args.flat.now c.put-in-Store.new.self (c.store.ensures scope rest is h) put) may)
    c.put-in-Store.ensures

pub put_instr-returns-in-Apply : goal.put_instr-returns-in-Apply
put_instr-returns-in-Apply t c =
    on_ok c.put-in-Apply.result
    (λ put scope rest label is may.
    as_line scope rest c.args.skip (instr_line c.args.instr.now label) (PlainLine label c.in-Apply.line (Apply c.in-Apply.operator (term_view c.in-Apply.operand))) c.args.flat.now c.put-in-Apply.new.self (ap (λ i. instr_line i label) c.in-Apply.is ∙ line_apply c.in-Apply.operator c.in-Apply.operand c.in-Apply.line label)
    (λ h. one_line (IsStepLowered scope rest (Apply c.in-Apply.operator (term_view c.in-Apply.operand))) c.apply.result c.in-Apply.line c.args.flat.now c.put-in-Apply.new.self (c.apply.ensures scope rest is h) put) may)
    c.put-in-Apply.ensures

pub put_instr-returns-in-Not : goal.put_instr-returns-in-Not
put_instr-returns-in-Not t c =
    on_ok c.put-in-Not.result
    (λ put scope rest label is may.
    as_line scope rest c.args.skip (instr_line c.args.instr.now label) (PlainLine label c.in-Not.line (Negate)) c.args.flat.now c.put-in-Not.new.self (ap (λ i. instr_line i label) c.in-Not.is ∙ line_not c.in-Not.line label)
    (λ h. one_line (IsStepLowered scope rest (Negate)) code.Not c.in-Not.line c.args.flat.now c.put-in-Not.new.self (refl) put) may)
    c.put-in-Not.ensures

pub put_instr-returns-in-Jump : goal.put_instr-returns-in-Jump
put_instr-returns-in-Jump t c =
    on_ok c.put-in-Jump.result
    (λ put scope rest label is may.
    as_line scope rest c.args.skip (instr_line c.args.instr.now label) (PlainLine label c.in-Jump.line (Jump c.in-Jump.condition (name_of c.in-Jump.label.now))) c.args.flat.now c.put-in-Jump.new.self (ap (λ i. instr_line i label) c.in-Jump.is ∙ line_jump c.in-Jump.condition c.in-Jump.label c.in-Jump.line label)
    (λ h. one_line (IsStepLowered scope rest (Jump c.in-Jump.condition (name_of c.in-Jump.label.now))) (code.Jump c.in-Jump.condition c.args.skip) c.in-Jump.line c.args.flat.now c.put-in-Jump.new.self ((c.args.skip, h, refl)) put) may)
    c.put-in-Jump.ensures

pub put_instr-returns-in-Return : goal.put_instr-returns-in-Return
put_instr-returns-in-Return t c =
    on_ok c.put-in-Return.result
    (λ put scope rest label is may.
    as_line scope rest c.args.skip (instr_line c.args.instr.now label) (PlainLine label c.in-Return.line (Return c.in-Return.condition)) c.args.flat.now c.put-in-Return.new.self (ap (λ i. instr_line i label) c.in-Return.is ∙ line_return c.in-Return.condition c.in-Return.line label)
    (λ h. one_line (IsStepLowered scope rest (Return c.in-Return.condition)) (code.Return c.in-Return.condition) c.in-Return.line c.args.flat.now c.put-in-Return.new.self (refl) put) may)
    c.put-in-Return.ensures

pub put_instr-returns-in-Call : goal.put_instr-returns-in-Call
put_instr-returns-in-Call t c =
    on_ok c.put_call.result
    (λ put scope rest label is may.
    let call = λ (xs : List Argument). Call c.in-Call.condition (name_of c.in-Call.instance.now) (map assignment_view xs) in
    as_line scope rest c.args.skip (instr_line c.args.instr.now label) (PlainLine label c.in-Call.line (call c.deref.result.now)) c.args.flat.now c.put_call.new.flat
    (ap (λ i. instr_line i label) c.in-Call.is ∙ line_call c.in-Call.condition c.in-Call.instance c.in-Call.arguments c.in-Call.line label ∙ ap (λ xs. PlainLine label c.in-Call.line (call xs)) (sym c.deref.ensures.value))
    (λ h. put scope rest is h.0 h.1 h.2) may)
    c.put_call.ensures

pub put_instr-returns-in-Defer : goal.put_instr-returns-in-Defer
put_instr-returns-in-Defer t c =
    on_ok c.put_nested.result
    (λ put scope rest label is may.
    as_line scope rest c.args.skip (instr_line c.args.instr.now label) (NestedLine label c.in-Defer.line c.in-Defer.operator (option_map term_view c.in-Defer.operand) (lines_view c.in-Defer.inside.items) c.in-Defer.close) c.args.flat.now c.put_nested.new.flat
    (ap (λ i. instr_line i label) c.in-Defer.is ∙ line_defer c.in-Defer.operator c.in-Defer.operand c.in-Defer.inside c.in-Defer.line c.in-Defer.close label)
    (λ h. put scope rest label is h.0 h.1) may)
    c.put_nested.ensures

pub put_nested-returns : goal.put_nested-returns
put_nested-returns t c =
    on_ok c.put-2.result
    (λ put scope rest label is opens inner.
    nested_added scope rest label c.args.line c.args.operator (option_map term_view c.args.operand.now) (lines_view c.args.inside.now.items) c.args.close c.args.flat.now c.put.new.self c.put_inside.new.flat c.put-2.new.self c.opening.result
    c.in_ok-put.ensures (c.in_ok-put_inside.ensures scope is inner) (c.opening.ensures scope is opens) put)
    c.put-2.ensures

pub put_inside_line-returns-in-Some : goal.put_inside_line-returns-in-Some
put_inside_line-returns-in-Some t c =
    on_ok c.put_instr.result
    (λ put scope rest first is may so_far.
    let label = option_map word_view c.args.line.now.label in
    let line = instr_line c.in-Some.instr label in
    let seen = view_instr c.args.line.now c.in-Some.instr rest c.in-Some.is in
    let here = inside_put scope line rest (subst (IsInsideLowerable scope) seen may) in
    subst (λ ls. AddsLines scope ls first c.put_instr.new.flat) (sym seen)
    (line_added scope rest line first c.args.flat.now c.put_instr.new.flat (put scope rest label is (line_anywhere scope (IsAhead rest 0) line here.0)) so_far))
    c.put_instr.ensures

pub put_inside_line-returns-in-None : goal.put_inside_line-returns-in-None
put_inside_line-returns-in-None t c = λ scope rest first is may so_far.
    subst (λ ls. AddsLines scope ls first c.args.flat.now) (sym (view_none c.args.line.now rest c.in-None.is)) (label_added scope (option_map word_view c.args.line.now.label) rest first c.args.flat.now so_far)

pub put_inside-loop-index-init : goal.put_inside-loop-index-init
put_inside-loop-index-init t c = λ scope is may.
    let items = c.args.lines.now.items in
    let end : drop c.len-index.result items ≡ [] = drop_all c.len-index.result items (omega (arith, c.len-index.ensures)) in
    subst (λ xs. AddsLines scope (lines_view xs) c.args.flat.now c.args.flat.now) (sym end) (no_lines_added scope c.args.flat.now)

pub put_inside-loop-index-preserved-in_default : goal.put_inside-loop-index-preserved-in_default
put_inside-loop-index-preserved-in_default t c = λ scope is may. absurd (omega (arith, subst (λ (xs : List Line). length xs ≤ c.loop-index.index - 1) c.deref.ensures.value c.in_default.ensures.lookup.3, c.loop-index.auto.index, c.len-index.ensures, c.loop-index-test.true))

pub put_inside-loop-index-preserved : goal.put_inside-loop-index-preserved
put_inside-loop-index-preserved t c = λ scope is may.
    let items = c.args.lines.now.items in
    let i = c.loop-index.index - 1 in
    let next : i + 1 ≡ c.loop-index.index = omega (arith, c.loop-index-test.true) in
    let cut = subst (λ (xs : List Line). drop i xs ≡ c.in-Some.last.now ∷ drop (i + 1) xs) c.deref.ensures.value (from_index c.deref.result.now i c.in-Some.last.now c.in-Some.ensures.lookup.3.0 c.in-Some.ensures.lookup.1) in
    let here = subst (λ xs. IsInsideLowerable scope (lines_view xs)) cut (inside_from scope i items may) in
    let so_far = subst (λ k. AddsLines scope (lines_view (drop k items)) c.args.flat.now c.loop-index.flat) (sym next) (c.loop-index.invariant scope is may) in
    subst (λ xs. AddsLines scope (lines_view xs) c.args.flat.now c.put_inside_line.new.flat) (sym cut)
    (c.in_ok-put_inside_line.ensures scope (lines_view (drop (i + 1) items)) c.args.flat.now is here so_far)

pub put_inside-returns : goal.put_inside-returns
put_inside-returns t c = λ scope is may.
    let end : c.loop-index.index ≡ 0 = omega (arith, c.loop-index-test.false) in
    subst (λ i. AddsLines scope (lines_view (drop i c.args.lines.now.items)) c.args.flat.now c.loop-index.flat) end (c.loop-index.invariant scope is may)
