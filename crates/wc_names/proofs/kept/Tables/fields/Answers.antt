-- The fields of a unit's table are its plain variables.
use Rattle.wc_model.proofs.Common.{◌≡◌, [], Some, map, ap, sym, ◌∙◌, refl, slice_get-map}
use Rattle.std.specs.Prelude.{option_map, slice_get}
use Rattle.wc_names.specs.{plain_of_field, spelled, spelled_in_table}
use Rattle.wc_names.specs.declared.unit_table.UnitTable.{UnitTable}
use Rattle.wc_names.proofs.Lists.{got_some, same_found}
use Rattle.wc_names.proofs.PlainVariables.{plain_fields}
use Rattle.wc_names.proofs.ScopeTables.{at_unit, from_0}
use Rattle.wc_names.proofs.kept.Tables.fields.Goals as goal

pub returns-clause-fields : goal.returns-clause-fields
returns-clause-fields c = λ text scope are is.
    let units = c.args.self.now.units.items in
    let r = at_unit text [] units c.args.unit scope are is in
    let there = ap (slice_get units) (from_0 r.1) ∙ r.0.there in
    let same = same_found units units c.args.unit r.0.table c.index-table.result.now refl there c.requires c.index-table.ensures in
    ap (map plain_of_field) c.as_slice.ensures.value ∙ ap (λ (t : UnitTable). map plain_of_field t.fields.items) same ∙ plain_fields units scope r.0

pub returns-clause-spelled : goal.returns-clause-spelled
returns-clause-spelled c = λ source same.
    let units = c.args.self.now.units.items in
    let there : slice_get units c.args.unit ≡ Some c.index-table.result.now = got_some units c.args.unit c.index-table.result.now c.requires c.index-table.ensures in
    ap (λ xs. slice_get xs c.args.unit) (sym same) ∙ slice_get-map spelled_in_table units c.args.unit ∙ ap (option_map spelled_in_table) there
    ∙ ap (λ xs. Some (map spelled xs)) (sym c.as_slice.ensures.value)
