use Rattle.std.proofs.Common.{map, option_map, ap, ◌∙◌}
use Rattle.wc_model.specs.Definitions.{PlainLine, NestedLine, name_of, assignment_view, lines_view, term_view}
use Rattle.wc_model.specs.Language.Tree.{Load, Store, Apply, Negate, Jump, Call, Return}
use Rattle.wc_verify.proofs.InstrLines.{line_apply, line_call, line_defer, line_jump, line_load, line_not, line_return, line_store}
use Rattle.wc_verify.specs.Instructions.{instr_line}
use Rattle.wc_cost.proofs.LabelsLowered.{as_near}
use Rattle.wc_cost.proofs.body.label_skip.Goals as goal

pub returns-in-Jump : goal.returns-in-Jump
returns-in-Jump c = λ rest scope label holds may.
    as_near scope rest c.lines_ahead.result (instr_line c.args.instr.now label) (PlainLine label c.in-Jump.line (Jump c.in-Jump.condition (name_of c.in-Jump.label.now))) (ap (λ i. instr_line i label) c.in-Jump.is ∙ line_jump c.in-Jump.condition c.in-Jump.label c.in-Jump.line label)
    (λ h. c.lines_ahead.ensures rest holds h) may

pub returns-in-Load : goal.returns-in-Load
returns-in-Load c = λ rest scope label holds may.
    as_near scope rest 0 (instr_line c.args.instr.now label) (PlainLine label c.in-Load.line (Load c.in-Load.negated (term_view c.in-Load.operand))) (ap (λ i. instr_line i label) c.in-Load.is ∙ line_load c.in-Load.negated c.in-Load.operand c.in-Load.line label)
    (λ h. h) may

pub returns-in-Store : goal.returns-in-Store
returns-in-Store c = λ rest scope label holds may.
    as_near scope rest 0 (instr_line c.args.instr.now label) (PlainLine label c.in-Store.line (Store c.in-Store.storing (term_view c.in-Store.target))) (ap (λ i. instr_line i label) c.in-Store.is ∙ line_store c.in-Store.storing c.in-Store.target c.in-Store.line label)
    (λ h. h) may

pub returns-in-Apply : goal.returns-in-Apply
returns-in-Apply c = λ rest scope label holds may.
    as_near scope rest 0 (instr_line c.args.instr.now label) (PlainLine label c.in-Apply.line (Apply c.in-Apply.operator (term_view c.in-Apply.operand))) (ap (λ i. instr_line i label) c.in-Apply.is ∙ line_apply c.in-Apply.operator c.in-Apply.operand c.in-Apply.line label)
    (λ h. h) may

pub returns-in-Not : goal.returns-in-Not
returns-in-Not c = λ rest scope label holds may.
    as_near scope rest 0 (instr_line c.args.instr.now label) (PlainLine label c.in-Not.line Negate) (ap (λ i. instr_line i label) c.in-Not.is ∙ line_not c.in-Not.line label)
    (λ h. h) may

pub returns-in-Return : goal.returns-in-Return
returns-in-Return c = λ rest scope label holds may.
    as_near scope rest 0 (instr_line c.args.instr.now label) (PlainLine label c.in-Return.line (Return c.in-Return.condition)) (ap (λ i. instr_line i label) c.in-Return.is ∙ line_return c.in-Return.condition c.in-Return.line label)
    (λ h. h) may

pub returns-in-Call : goal.returns-in-Call
returns-in-Call c = λ rest scope label holds may.
    as_near scope rest 0 (instr_line c.args.instr.now label) (PlainLine label c.in-Call.line (Call c.in-Call.condition (name_of c.in-Call.instance.now) (map assignment_view c.in-Call.arguments.items))) (ap (λ i. instr_line i label) c.in-Call.is ∙ line_call c.in-Call.condition c.in-Call.instance c.in-Call.arguments c.in-Call.line label)
    (λ h. h) may

pub returns-in-Defer : goal.returns-in-Defer
returns-in-Defer c = λ rest scope label holds may.
    as_near scope rest 0 (instr_line c.args.instr.now label) (NestedLine label c.in-Defer.line c.in-Defer.operator (option_map term_view c.in-Defer.operand) (lines_view c.in-Defer.inside.items) c.in-Defer.close) (ap (λ i. instr_line i label) c.in-Defer.is ∙ line_defer c.in-Defer.operator c.in-Defer.operand c.in-Defer.inside c.in-Defer.line c.in-Defer.close label)
    (λ h. h) may
