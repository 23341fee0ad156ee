use Rattle.wc_model.proofs.Common.{◌≤◌, length, None, Some, refl, sym, ap, subst, ◌∙◌, slice_get, slice_get_past, position_from}
use Rattle.wc_model.specs.Definitions.{same_name, name_of}
use Rattle.wc_names.specs.declared.unit_table.UnitTable.{UnitTable}
use Rattle.wc_names.proofs.Frames.{row_found, row_unknown}
use Rattle.wc_names.proofs.Lists.{got_some, same_found}
use Rattle.wc_names.proofs.lookup.row.Goals as goal

pub returns-in_err-number : goal.returns-in_err-number
returns-in_err-number c = λ table there long.
    let e = same_found c.args.units.now c.args.units.now c.args.unit table c.in_ok-table.table.now refl there c.in_ok-table.ensures.lookup.3.0 c.in_ok-table.ensures.lookup.1 in
    let name = name_of c.args.name.now in
    c.from_residual-in_err-number.ensures ∙ row_unknown table.names table.rows.items name long (ap (λ (t : UnitTable). position_from (λ n. same_name n name) 0 t.names) (sym e) ∙ sym c.number.ensures ∙ c.in_err-number.was)

pub returns-in_err-row : goal.returns-in_err-row
returns-in_err-row c = λ table there long.
    let e = same_found c.args.units.now c.args.units.now c.args.unit table c.in_ok-table.table.now refl there c.in_ok-table.ensures.lookup.3.0 c.in_ok-table.ensures.lookup.1 in
    let name = name_of c.args.name.now in
    c.from_residual-in_err-row.ensures ∙ row_found table.names table.rows.items name c.in_ok-number.number None long
    (ap (λ (t : UnitTable). position_from (λ n. same_name n name) 0 t.names) (sym e) ∙ sym c.number.ensures ∙ c.in_ok-number.was)
    (slice_get_past table.rows.items c.in_ok-number.number (subst (λ xs. length xs ≤ c.in_ok-number.number) (c.deref.ensures.value ∙ ap (λ (t : UnitTable). t.rows.items) e) c.in_err-row.ensures.lookup.3))

pub returns : goal.returns
returns c = λ table there long.
    let e = same_found c.args.units.now c.args.units.now c.args.unit table c.in_ok-table.table.now refl there c.in_ok-table.ensures.lookup.3.0 c.in_ok-table.ensures.lookup.1 in
    let name = name_of c.args.name.now in
    row_found table.names table.rows.items name c.in_ok-number.number (Some c.in_ok-row.row.now) long
    (ap (λ (t : UnitTable). position_from (λ n. same_name n name) 0 t.names) (sym e) ∙ sym c.number.ensures ∙ c.in_ok-number.was)
    (ap (λ xs. slice_get xs c.in_ok-number.number) (sym (c.deref.ensures.value ∙ ap (λ (t : UnitTable). t.rows.items) e))
    ∙ got_some c.deref.result.now c.in_ok-number.number c.in_ok-row.row.now c.in_ok-row.ensures.lookup.3.0 c.in_ok-row.ensures.lookup.1)
