use Rattle.wc_model.proofs.Common.{List, Some, None, option_map, length, sym, ap, ◌∙◌, if◌then◌else◌}
use Rattle.wc_model.specs.Definitions.{name_of, ProgramUnit}
use Rattle.wc_names.specs.declared.unit_table.UnitTable.{UnitTable}
use Rattle.wc_names.proofs.Lists.{not_past, same_found}
use Rattle.wc_names.proofs.Places.{block_numbered, block_unnumbered}
use Rattle.wc_declare.proofs.types.block.Goals as goal

pub returns-in_err-number : goal.returns-in_err-number
returns-in_err-number c = λ text before h.
    c.from_residual.ensures ∙ sym (ap (option_map (λ (f : ProgramUnit × List ProgramUnit). length f.1)) (block_unnumbered before (name_of c.args.name.now) (sym (h.numbers (name_of c.args.name.now)) ∙ sym c.number.ensures ∙ c.in_err-number.was)))

pub returns-in_err-table : goal.returns-in_err-table
returns-in_err-table c = λ text before h.
    let name = name_of c.args.name.now in
    let b = block_numbered before c.args.units.now.tables.items name c.in_ok-number.number h.tables (sym (h.numbers name) ∙ sym c.number.ensures ∙ c.in_ok-number.was) in
    absurd (not_past c.deref.result.now c.args.units.now.tables.items c.in_ok-number.number b.0 c.deref.ensures.value b.1 c.in_err-table.ensures.lookup.3)

pub returns-then-table : goal.returns-then-table
returns-then-table c = λ text before h.
    let name = name_of c.args.name.now in
    let b = block_numbered before c.args.units.now.tables.items name c.in_ok-number.number h.tables (sym (h.numbers name) ∙ sym c.number.ensures ∙ c.in_ok-number.was) in
    let same = same_found c.deref.result.now c.args.units.now.tables.items c.in_ok-number.number b.0 c.in_ok-table.table.now c.deref.ensures.value b.1 c.in_ok-table.ensures.lookup.3.0 c.in_ok-table.ensures.lookup.1 in
    sym (b.2 ∙ ap (λ (t : UnitTable). if t.is_block then Some c.in_ok-number.number else None) (sym same) ∙ ap (λ t. if t then Some c.in_ok-number.number else None) c.if-table.true)

pub returns-else-table : goal.returns-else-table
returns-else-table c = λ text before h.
    let name = name_of c.args.name.now in
    let b = block_numbered before c.args.units.now.tables.items name c.in_ok-number.number h.tables (sym (h.numbers name) ∙ sym c.number.ensures ∙ c.in_ok-number.was) in
    let same = same_found c.deref.result.now c.args.units.now.tables.items c.in_ok-number.number b.0 c.in_ok-table.table.now c.deref.ensures.value b.1 c.in_ok-table.ensures.lookup.3.0 c.in_ok-table.ensures.lookup.1 in
    sym (b.2 ∙ ap (λ (t : UnitTable). if t.is_block then Some c.in_ok-number.number else None) (sym same) ∙ ap (λ t. if t then Some c.in_ok-number.number else None) c.if-table.false)
