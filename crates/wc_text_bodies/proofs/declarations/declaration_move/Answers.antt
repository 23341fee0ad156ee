use Rattle.wc_model.specs.Language.Views.{unit_view}
use Rattle.wc_text_lines.proofs.Outcomes.{ok-map}
use Rattle.wc_text_bodies.proofs.declarations.declaration_move.Goals as goal

pub returns-in-Undeclared : goal.returns-in-Undeclared
returns-in-Undeclared c = rw c.in-Undeclared.is (ok-map c.at_undeclared.result (λ next h units. h units (unit_view c.args.unit.now) c.args.section) c.at_undeclared.ensures)

pub returns-in-AfterNames : goal.returns-in-AfterNames
returns-in-AfterNames c = λ units. rw c.in-AfterNames.is (c.at_names.ensures units (unit_view c.args.unit.now) c.args.section)

pub returns-in-AfterComma : goal.returns-in-AfterComma
returns-in-AfterComma c = rw c.in-AfterComma.is (ok-map c.at_next_name.result (λ next h units. h units (unit_view c.args.unit.now) c.args.section) c.at_next_name.ensures)

pub returns-in-AfterColon : goal.returns-in-AfterColon
returns-in-AfterColon c = λ units. rw c.in-AfterColon.is (c.at_type.ensures units (unit_view c.args.unit.now) c.args.section)

pub returns-in-AfterType : goal.returns-in-AfterType
returns-in-AfterType c = rw c.in-AfterType.is (ok-map c.after_type.result (λ next h units. h units) c.after_type.ensures)

pub returns-in-AfterAssign : goal.returns-in-AfterAssign
returns-in-AfterAssign c = λ units. rw c.in-AfterAssign.is (c.at_value.ensures units (unit_view c.args.unit.now) c.args.section)

pub returns-in-AfterValue : goal.returns-in-AfterValue
returns-in-AfterValue c = rw c.in-AfterValue.is (ok-map c.after_value.result (λ next h units. h units) c.after_value.ensures)
