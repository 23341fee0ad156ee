use Rattle.wc_model.proofs.Common.{◌≡◌, ◌+◌, ◌++◌, ◌∷◌, [], None, map, drop, ap, refl, sym, subst, ◌∙◌, drop_all, map-append, flat_map}
use Rattle.wc_model.specs.Definitions.{first_broken, positions_after, unit_checks, declaration_fault, unit_view}
use Rattle.wc_names.specs.{AreUnits, onto, spelled_in_table, spelled_of_unit}
use Rattle.wc_declare.specs.SoFar.{AreUnitsOf}
use Rattle.wc_names.specs.declared.unit_table.UnitTable.{UnitTable}
use Rattle.wc_declare.proofs.Validation.{validates_on, validates_ok}
use Rattle.wc_names.proofs.Lists.{from_index}
use Rattle.wc_declare.proofs.UnitsSoFar.{Reads, none_read, one_read}
use Rattle.wc_declare.proofs.SpelledSoFar.{named_all, named_on}
use Rattle.wc_declare.proofs.declaring.validate_units.Goals as goal

pub loop-unit-init : goal.loop-unit-init
loop-unit-init c = ((λ units. none_read (map unit_view c.deref-unit-items.result.now) c.args.units.now units), refl)

pub returns-in_err-table-clause-validated : goal.returns-in_err-table-clause-validated
returns-in_err-table-clause-validated c = λ start.
    let i = c.loop-unit.unit-index in
    let items = c.deref-unit-items.result.now in
    let text = map unit_view items in
    let unit = unit_view c.unit-item.result in
    let left = map unit_view (drop (i + 1) items) in
    let cut = from_index items i c.unit-item.result c.loop-unit-test.true c.unit-item.is in
    let h = subst (λ xs. Reads text (map unit_view xs) c.loop-unit.units) cut (c.loop-unit.invariant.0 (subst (λ xs. AreUnitsOf (map unit_view xs) [] c.args.units.now) (sym c.deref-unit-items.ensures.value) start)) in
    let more = flat_map (λ position. unit_checks text position.before position.item) (positions_after (unit ∷ h.before) left) in
    validates_on UnitTable (Unit {0}) _ (first_broken (unit_checks text h.before unit ++ more)) (first_broken more) None c.in_err-table.field-0.0 c.from_residual.result c.from_residual.ensures
    (ap (λ xs. declaration_fault (map unit_view xs)) (sym c.deref-unit-items.ensures.value) ∙ h.found) (c.in_err-table.ensures.validated text h.before more h.are)

pub loop-unit-preserved : goal.loop-unit-preserved
loop-unit-preserved c = (
  (λ start.
      let i = c.loop-unit.unit-index in
      let items = c.deref-unit-items.result.now in
      let text = map unit_view items in
      let unit = unit_view c.unit-item.result in
      let left = map unit_view (drop (i + 1) items) in
      let cut = from_index items i c.unit-item.result c.loop-unit-test.true c.unit-item.is in
      let h = subst (λ xs. Reads text (map unit_view xs) c.loop-unit.units) cut (c.loop-unit.invariant.0 start) in
      let more = flat_map (λ position. unit_checks text position.before position.item) (positions_after (unit ∷ h.before) left) in
      one_read text unit left c.loop-unit.units c.add_unit.new.units h
      (validates_ok (first_broken (unit_checks text h.before unit ++ more)) (first_broken more) c.validate_unit.result c.in_ok-table.table c.in_ok-table.was (c.validate_unit.ensures.validated text h.before more h.are))
      (c.in_ok-add_unit.ensures.added text h.before unit h.are refl c.in_ok-table.ensures.new (c.in_ok-table.ensures.table text h.before h.are))),
  (let items = c.deref-unit-items.result.now in
      let old = c.loop-unit.units.tables.items in
      let left = map spelled_of_unit (drop (c.loop-unit.unit-index + 1) items) in
      named_on (map spelled_in_table c.args.units.now.tables.items) (map spelled_in_table old) (map spelled_in_table c.add_unit.new.units.tables.items) (spelled_of_unit c.unit-item.result) left (map spelled_of_unit items)
      (ap (λ xs. map spelled_in_table old ++ map spelled_of_unit xs) (sym (from_index items c.loop-unit.unit-index c.unit-item.result c.loop-unit-test.true c.unit-item.is)) ∙ c.loop-unit.invariant.1)
      (ap (map spelled_in_table) c.in_ok-add_unit.ensures.tables ∙ map-append spelled_in_table old (c.in_ok-table.table ∷ []) ∙ ap (λ names. map spelled_in_table old ++ names ∷ []) c.in_ok-table.ensures.spelled)),
)

pub returns-clause-validated : goal.returns-clause-validated
returns-clause-validated c = λ start.
    let items = c.deref-unit-items.result.now in
    let end : drop c.loop-unit.unit-index items ≡ [] = drop_all c.loop-unit.unit-index items c.loop-unit-test.false in
    let h = subst (λ xs. Reads (map unit_view items) (map unit_view xs) c.loop-unit.units) end (c.loop-unit.invariant.0 (subst (λ xs. AreUnitsOf (map unit_view xs) [] c.args.units.now) (sym c.deref-unit-items.ensures.value) start)) in
    ap (λ xs. declaration_fault (map unit_view xs)) (sym c.deref-unit-items.ensures.value) ∙ h.found

pub returns-clause-tables : goal.returns-clause-tables
returns-clause-tables c = λ start.
    let items = c.deref-unit-items.result.now in
    let end : drop c.loop-unit.unit-index items ≡ [] = drop_all c.loop-unit.unit-index items c.loop-unit-test.false in
    let h = subst (λ xs. Reads (map unit_view items) (map unit_view xs) c.loop-unit.units) end (c.loop-unit.invariant.0 (subst (λ xs. AreUnitsOf (map unit_view xs) [] c.args.units.now) (sym c.deref-unit-items.ensures.value) start)) in
    subst (λ before. AreUnits before c.loop-unit.units.tables.items) (h.joined ∙ ap (λ xs. onto (map unit_view xs) []) c.deref-unit-items.ensures.value) h.are.tables

pub returns-clause-spelled : goal.returns-clause-spelled
returns-clause-spelled c =
    let items = c.deref-unit-items.result.now in
    let end : drop c.loop-unit.unit-index items ≡ [] = drop_all c.loop-unit.unit-index items c.loop-unit-test.false in
    named_all (map spelled_in_table c.args.units.now.tables.items) (map spelled_in_table c.loop-unit.units.tables.items) (map spelled_of_unit (drop c.loop-unit.unit-index items)) (map spelled_of_unit items)
    (ap (map spelled_of_unit) end) c.loop-unit.invariant.1
    ∙ ap (λ xs. map spelled_in_table c.args.units.now.tables.items ++ map spelled_of_unit xs) c.deref-unit-items.ensures.value
