use Rattle.wc_model.proofs.Common.{Some, refl, ap, sym, ◌∙◌, slice_get}
use Rattle.wc_built_in.specs.Fields.{direct_at}
use Rattle.wc_names.specs.declared.unit_table.UnitTable.{UnitTable}
use Rattle.wc_names.proofs.Lists.{not_past, same_found}
use Rattle.wc_names.proofs.ScopeTables.{address_in_block, address_in_program}
use Rattle.wc_names.proofs.lookup.direct_number.Goals as goal

pub returns-in_err-table : goal.returns-in_err-table
returns-in_err-table c = λ scope h e below.
    absurd (not_past c.args.units.now c.args.units.now c.args.unit h.table refl (ap (slice_get c.args.units.now) e ∙ h.there) c.in_err-table.ensures.lookup.3)

pub returns-then-table : goal.returns-then-table
returns-then-table c = λ scope h e below.
    let same = same_found c.args.units.now c.args.units.now c.args.unit h.table c.in_ok-table.table.now refl (ap (slice_get c.args.units.now) e ∙ h.there) c.in_ok-table.ensures.lookup.3.0 c.in_ok-table.ensures.lookup.1 in
    sym (address_in_block scope (Some (direct_at c.args.number)) (sym h.is.is_block ∙ sym (ap (λ (t : UnitTable). t.is_block) same) ∙ c.if-table.true))

pub returns : goal.returns
returns c = λ scope h e below.
    let same = same_found c.args.units.now c.args.units.now c.args.unit h.table c.in_ok-table.table.now refl (ap (slice_get c.args.units.now) e ∙ h.there) c.in_ok-table.ensures.lookup.3.0 c.in_ok-table.ensures.lookup.1 in
    ap Some c.from.ensures
    ∙ address_in_program scope c.args.number (Some (direct_at c.args.number)) (sym h.is.is_block ∙ sym (ap (λ (t : UnitTable). t.is_block) same) ∙ c.if-table.false) below refl
