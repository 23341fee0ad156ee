use Rattle.std.proofs.Common.{[], None, ◌++◌, map, refl, ap, sym, subst, ◌∙◌}
use Rattle.wc_model.specs.Definitions.{declaration_fault, text_view}
use Rattle.wc_names.specs.{AreUnits, onto, spelled_in_table, spelled_of_unit}
use Rattle.wc_declare.proofs.Validation.{validates_ok, validates_on}
use Rattle.wc_names.specs.declared.kept.Tables.{Tables}
use Rattle.wc_declare.proofs.declaring.tables.Goals as goal

pub returns-clause-accepted : goal.returns-clause-accepted
returns-clause-accepted c = subst (λ tables. AreUnits (onto (text_view c.args.source.now) []) tables.items) (sym c.new.ensures) (c.in_ok-validate_units.ensures.tables c.in_ok-units.ensures.units)

pub returns-clause-validated : goal.returns-clause-validated
returns-clause-validated c = validates_ok (declaration_fault (text_view c.args.source.now)) None c.validate_units.result c.in_ok-validate_units.field-0 c.in_ok-validate_units.was (c.validate_units.ensures.validated c.in_ok-units.ensures.units)

pub returns-clause-spelled : goal.returns-clause-spelled
returns-clause-spelled c =
    ap (λ units. map spelled_in_table units.items) c.new.ensures ∙ c.in_ok-validate_units.ensures.spelled
    ∙ ap (λ tables. map spelled_in_table tables ++ map spelled_of_unit c.args.source.now.units.items) c.in_ok-units.ensures.none

pub returns-in_err-validate_units-clause-validated : goal.returns-in_err-validate_units-clause-validated
returns-in_err-validate_units-clause-validated c =
    validates_on (Unit {0}) Tables (declaration_fault (text_view c.args.source.now)) (declaration_fault (text_view c.args.source.now)) None None c.in_err-validate_units.field-0.0 c.from_residual-in_err-validate_units.result c.from_residual-in_err-validate_units.ensures refl
    (c.in_err-validate_units.ensures.validated c.in_ok-units.ensures.units)
