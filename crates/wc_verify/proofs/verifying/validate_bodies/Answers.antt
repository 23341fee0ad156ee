use Rattle.wc_model.proofs.Common.{◌+◌, ◌∷◌, ◌++◌, None, map, drop, refl, sym, ap, subst, ◌∙◌, flat_map}
use Rattle.wc_model.specs.Definitions.{body_rules, first_broken, positions_after, body_fault, Scope, unit_view}
use Rattle.wc_names.specs.RepresentsText.{AreTables}
use Rattle.wc_verify.proofs.BodyUnits.{UnitsLeft, unit_passed, unit_rules, unit_there}
use Rattle.wc_declare.proofs.Validation.{validates_on}
use Rattle.wc_names.proofs.Lists.{from_index}
use Rattle.wc_verify.proofs.verifying.validate_bodies.Goals as goal

pub returns-in_err-validate_body : goal.returns-in_err-validate_body
returns-in_err-validate_body c = λ are.
    let i = c.loop-number.number in
    let items = c.deref-unit-items.result.now in
    let all = map unit_view items in
    let unit = unit_view c.unit-item.result in
    let left = map unit_view (drop (i + 1) items) in
    let are_all = subst (λ xs. AreTables c.args.tables.now (map unit_view xs)) (sym c.deref-unit-items.ensures.value) are in
    let cut = from_index items i c.unit-item.result c.loop-number-test.true c.unit-item.is in
    let h = subst (λ xs. UnitsLeft all (map unit_view xs) i) cut (c.loop-number.invariant are_all) in
    let scope : Scope = record { before = h.before; unit = unit } in
    let more = flat_map unit_rules (positions_after (unit ∷ h.before) left) in
    validates_on (Unit {0}) (Unit {0}) (body_fault (map unit_view c.args.source.now.units.items)) (first_broken (body_rules scope ++ more)) (first_broken more) None c.in_err-validate_body.field-0.0 c.from_residual.result c.from_residual.ensures
    (ap (λ xs. body_fault (map unit_view xs)) (sym c.deref-unit-items.ensures.value) ∙ h.found)
    (c.in_err-validate_body.ensures scope more (record { text = all; tables_are = are_all; unit_is = unit_there all left unit i h }) refl)

pub loop-number-preserved : goal.loop-number-preserved
loop-number-preserved c = λ are.
    let i = c.loop-number.number in
    let items = c.deref-unit-items.result.now in
    let all = map unit_view items in
    let unit = unit_view c.unit-item.result in
    let left = map unit_view (drop (i + 1) items) in
    let cut = from_index items i c.unit-item.result c.loop-number-test.true c.unit-item.is in
    let h = subst (λ xs. UnitsLeft all (map unit_view xs) i) cut (c.loop-number.invariant are) in
    let scope : Scope = record { before = h.before; unit = unit } in
    unit_passed all left unit i h (λ more. c.in_ok-validate_body.ensures scope more (record { text = all; tables_are = are; unit_is = unit_there all left unit i h }) refl)
