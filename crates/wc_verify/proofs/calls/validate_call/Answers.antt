use Rattle.wc_model.proofs.Common.{map, ap, sym, ◌∙◌, ◌∷◌, ◌++◌, flat_map}
use Rattle.wc_model.specs.Definitions.{argument_checks, call_checks, condition_checks, is_instance, members_called, asks, first_broken, positions_of, members_of, name_of, type_of, assignment_view}
use Rattle.wc_verify.proofs.Calling.{instance_found, no_instance_found, type_parts}
use Rattle.wc_declare.proofs.Validation.{validates_same}
use Rattle.wc_verify.proofs.calls.validate_call.Goals as goal

pub returns-then-not-is_instance-clause-validated : goal.returns-then-not-is_instance-clause-validated
returns-then-not-is_instance-clause-validated c = λ scope rest is.
    let typed = type_parts scope (type_of scope (name_of c.args.instance.now)) c.in-Some.found.declared (c.in-Some.ensures.declared is.text scope is.tables_are is.unit_is) in
    rw c.refusal-then-not-is_instance.ensures (no_instance_found scope c.args.line c.args.condition (type_of scope (name_of c.args.instance.now)) (map assignment_view c.args.arguments.now) c.args.kind rest c.in-Some.found.declared typed (sym c.if-not-is_instance.ensures))

pub returns-in-Some-validate_condition-clause-validated : goal.returns-in-Some-validate_condition-clause-validated
returns-in-Some-validate_condition-clause-validated c = λ scope rest is.
    let typed = type_parts scope (type_of scope (name_of c.args.instance.now)) c.in-Some.found.declared (c.in-Some.ensures.declared is.text scope is.tables_are is.unit_is) in
    let arguments = map assignment_view c.args.arguments.now in
    rw c.refusal-in-Some-validate_condition.ensures (instance_found scope c.args.line c.args.condition (type_of scope (name_of c.args.instance.now)) arguments c.args.kind rest c.in-Some.found.declared typed (sym c.if-not-is_instance.ensures)
    ∙ c.in-Some-validate_condition.ensures c.args.line (flat_map (argument_checks scope c.args.line (members_of scope.before typed.type)) (positions_of arguments) ++ rest))

pub returns-in-None-clause-validated : goal.returns-in-None-clause-validated
returns-in-None-clause-validated c = λ scope rest is.
    let typed = type_parts scope (type_of scope (name_of c.args.instance.now)) c.in-Some.found.declared (c.in-Some.ensures.declared is.text scope is.tables_are is.unit_is) in
    let arguments = map assignment_view c.args.arguments.now in
    let checks = flat_map (argument_checks scope c.args.line (members_of scope.before typed.type)) (positions_of arguments) in
    validates_same (first_broken (call_checks scope c.args.line c.args.condition (name_of c.args.instance.now) arguments c.args.kind ++ rest)) (first_broken (checks ++ rest)) (first_broken rest) c.validate_arguments.result
    (instance_found scope c.args.line c.args.condition (type_of scope (name_of c.args.instance.now)) arguments c.args.kind rest c.in-Some.found.declared typed (sym c.if-not-is_instance.ensures)
    ∙ c.in-None.ensures c.args.line (checks ++ rest))
    (c.validate_arguments.ensures.validated scope typed.type rest is typed.numbered)

pub returns-in_default-clause-validated : goal.returns-in_default-clause-validated
returns-in_default-clause-validated c = λ scope rest is.
    let name = name_of c.args.instance.now in
    let arguments = map assignment_view c.args.arguments.now in
    let checks = condition_checks c.args.condition c.args.line c.args.kind ++ flat_map (argument_checks scope c.args.line (members_called scope (type_of scope name))) (positions_of arguments) in
    rw c.refusal.ensures (ap (λ known. first_broken ((asks 401 c.args.line known ∷ asks 402 c.args.line (is_instance (type_of scope name)) ∷ checks) ++ rest)) (sym (c.in_default.ensures.known is.text scope is.tables_are is.unit_is)))
