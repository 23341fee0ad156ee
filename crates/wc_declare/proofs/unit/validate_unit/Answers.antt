use Rattle.wc_model.proofs.Common.{◌≡◌, Bool, [], ◌++◌, map, refl, ap, sym, ◌∙◌, append_assoc, if◌then◌else◌}
use Rattle.wc_model.specs.Definitions.{first_broken, body_name_checks, unit_checks, unit_declaration_checks, is_block, lines_view, unit_view, ProgramUnit}
use Rattle.wc_declare.specs.SoFar.{IsEmptyOf}
use Rattle.wc_names.specs.declared.unit_table.UnitTable.{UnitTable}
use Rattle.wc_declare.proofs.Validation.{validates_on, validates_ok}
use Rattle.wc_names.specs.Spelled.{spelled, spelled_of_unit}
use Rattle.wc_declare.proofs.unit.validate_unit.Goals as goal

-- a new table is that of a unit of which nothing is declared yet
empty : (unit : ProgramUnit) (in_block : Bool) (table : UnitTable) → in_block ≡ is_block unit → table.is_block ≡ in_block → table.names ≡ [] → table.rows.items ≡ [] → table.fields.items ≡ [] → table.size ≡ (if in_block then 0 else 45) →
    IsEmptyOf unit table
empty unit in_block table same block names rows fields size = record {
  is_block = block ∙ same;
  names = names;
  rows = rows;
  fields = fields;
  size = size ∙ ap (λ b. if b then 0 else 45) same;
}

pub returns-in_err-validate_name-clause-validated : goal.returns-in_err-validate_name-clause-validated
returns-in_err-validate_name-clause-validated c = λ text before rest units.
    let unit = unit_view c.args.unit.now in
    let following = (unit_declaration_checks text before unit ++ body_name_checks unit unit.body) ++ rest in
    validates_on (Unit {0}) UnitTable (first_broken (unit_checks text before unit ++ rest)) (first_broken (unit_checks text before unit ++ rest)) (first_broken following) (first_broken rest) c.in_err-validate_name.field-0.0 c.from_residual.result c.from_residual.ensures refl
    (c.in_err-validate_name.ensures.validated _ following units.among)

pub returns-in_err-validate_declarations-clause-validated : goal.returns-in_err-validate_declarations-clause-validated
returns-in_err-validate_declarations-clause-validated c = λ text before rest units.
    let unit = unit_view c.args.unit.now in
    let following = (unit_declaration_checks text before unit ++ body_name_checks unit unit.body) ++ rest in
    let body = body_name_checks unit unit.body ++ rest in
    validates_on (Unit {0}) UnitTable (first_broken (unit_checks text before unit ++ rest)) (first_broken (unit_declaration_checks text before unit ++ body)) (first_broken body) (first_broken rest) c.in_err-validate_declarations.field-0.0 c.from_residual-in_err-validate_declarations.result c.from_residual-in_err-validate_declarations.ensures
    (validates_ok (first_broken (unit_checks text before unit ++ rest)) (first_broken following) c.validate_name.result c.in_ok-validate_name.field-0 c.in_ok-validate_name.was (c.validate_name.ensures.validated _ following units.among)
    ∙ ap first_broken (append_assoc (unit_declaration_checks text before unit) (body_name_checks unit unit.body) rest))
    (c.in_err-validate_declarations.ensures.validated text before body units (empty unit c.is_block-in_block.result c.new-table.result c.is_block-in_block.ensures c.new-table.ensures.is_block c.new-table.ensures.names c.new-table.ensures.rows c.new-table.ensures.fields c.new-table.ensures.size))

pub returns-in_err-validate_body-clause-validated : goal.returns-in_err-validate_body-clause-validated
returns-in_err-validate_body-clause-validated c = λ text before rest units.
    let unit = unit_view c.args.unit.now in
    let following = (unit_declaration_checks text before unit ++ body_name_checks unit unit.body) ++ rest in
    let body = body_name_checks unit unit.body ++ rest in
    let none = empty unit c.is_block-in_block.result c.new-table.result c.is_block-in_block.ensures c.new-table.ensures.is_block c.new-table.ensures.names c.new-table.ensures.rows c.new-table.ensures.fields c.new-table.ensures.size in
    validates_on (Unit {0}) UnitTable (first_broken (unit_checks text before unit ++ rest)) (first_broken (body_name_checks unit (lines_view c.deref.result.now) ++ rest)) (first_broken rest) (first_broken rest) c.in_err-validate_body.field-0.0 c.from_residual-in_err-validate_body.result c.from_residual-in_err-validate_body.ensures
    (validates_ok (first_broken (unit_checks text before unit ++ rest)) (first_broken following) c.validate_name.result c.in_ok-validate_name.field-0 c.in_ok-validate_name.was (c.validate_name.ensures.validated _ following units.among)
    ∙ ap first_broken (append_assoc (unit_declaration_checks text before unit) (body_name_checks unit unit.body) rest)
    ∙ validates_ok (first_broken (unit_declaration_checks text before unit ++ body)) (first_broken body) c.validate_declarations.result c.in_ok-validate_declarations.field-0 c.in_ok-validate_declarations.was (c.validate_declarations.ensures.validated text before body units none)
    ∙ ap (λ xs. first_broken (body_name_checks unit (lines_view xs) ++ rest)) (sym c.deref.ensures.value))
    (c.in_err-validate_body.ensures.validated unit rest c.is_block-in_block.ensures)

pub returns-clause-validated : goal.returns-clause-validated
returns-clause-validated c = λ text before rest units.
    let unit = unit_view c.args.unit.now in
    let following = (unit_declaration_checks text before unit ++ body_name_checks unit unit.body) ++ rest in
    let body = body_name_checks unit unit.body ++ rest in
    let none = empty unit c.is_block-in_block.result c.new-table.result c.is_block-in_block.ensures c.new-table.ensures.is_block c.new-table.ensures.names c.new-table.ensures.rows c.new-table.ensures.fields c.new-table.ensures.size in
    validates_ok (first_broken (unit_checks text before unit ++ rest)) (first_broken following) c.validate_name.result c.in_ok-validate_name.field-0 c.in_ok-validate_name.was (c.validate_name.ensures.validated _ following units.among)
    ∙ ap first_broken (append_assoc (unit_declaration_checks text before unit) (body_name_checks unit unit.body) rest)
    ∙ validates_ok (first_broken (unit_declaration_checks text before unit ++ body)) (first_broken body) c.validate_declarations.result c.in_ok-validate_declarations.field-0 c.in_ok-validate_declarations.was (c.validate_declarations.ensures.validated text before body units none)
    ∙ ap (λ xs. first_broken (body_name_checks unit (lines_view xs) ++ rest)) (sym c.deref.ensures.value)
    ∙ validates_ok (first_broken (body_name_checks unit (lines_view c.deref.result.now) ++ rest)) (first_broken rest) c.validate_body.result c.in_ok-validate_body.field-0 c.in_ok-validate_body.was (c.validate_body.ensures.validated unit rest c.is_block-in_block.ensures)

pub returns-clause-table : goal.returns-clause-table
returns-clause-table c = λ text before units.
    let unit = unit_view c.args.unit.now in
    c.in_ok-validate_declarations.ensures.table text before units
    (empty unit c.is_block-in_block.result c.new-table.result c.is_block-in_block.ensures c.new-table.ensures.is_block c.new-table.ensures.names c.new-table.ensures.rows c.new-table.ensures.fields c.new-table.ensures.size)

pub returns-clause-spelled : goal.returns-clause-spelled
returns-clause-spelled c =
    c.in_ok-validate_declarations.ensures.spelled ∙ ap (λ fields. map spelled fields ++ spelled_of_unit c.args.unit.now) c.new-table.ensures.fields
