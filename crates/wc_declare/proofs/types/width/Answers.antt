use Rattle.std.proofs.Common.{Some, ap, ◌∙◌}
use Rattle.wc_names.proofs.Lists.{not_past, same_found}
use Rattle.wc_names.proofs.Places.{elementary_width, standard_type_width, block_type_width}
use Rattle.wc_names.specs.declared.unit_table.UnitTable.{UnitTable}
use Rattle.wc_declare.proofs.types.width.Goals as goal

pub returns-in-Elementary : goal.returns-in-Elementary
returns-in-Elementary c = λ text before name h e. elementary_width before name c.in-Elementary.field-0 (e ∙ ap Some c.in-Elementary.is)

pub returns-in-Standard : goal.returns-in-Standard
returns-in-Standard c = λ text before name h e. c.standard_size.ensures ∙ standard_type_width before name c.in-Standard.block (e ∙ ap Some c.in-Standard.is)

pub returns-in-Some : goal.returns-in-Some
returns-in-Some c = λ text before name h e.
    let b = block_type_width before c.args.units.now.tables.items name c.in-Block.number h.tables (e ∙ ap Some c.in-Block.is) in
    let same = same_found c.deref.result.now c.args.units.now.tables.items c.in-Block.number b.0 c.in-Some.table.now c.deref.ensures.value b.1 c.in-Some.ensures.lookup.3.0 c.in-Some.ensures.lookup.1 in
    ap (λ (t : UnitTable). t.size) same ∙ b.2

pub returns-in-None : goal.returns-in-None
returns-in-None c = λ text before name h e.
    let b = block_type_width before c.args.units.now.tables.items name c.in-Block.number h.tables (e ∙ ap Some c.in-Block.is) in
    absurd (not_past c.deref.result.now c.args.units.now.tables.items c.in-Block.number b.0 c.deref.ensures.value b.1 c.in-None.ensures.lookup.3)
