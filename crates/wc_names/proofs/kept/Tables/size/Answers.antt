use Rattle.wc_model.proofs.Common.{[], ap, ◌∙◌, slice_get}
use Rattle.wc_names.specs.declared.unit_table.UnitTable.{UnitTable}
use Rattle.wc_names.proofs.Lists.{not_past, same_found}
use Rattle.wc_names.proofs.ScopeTables.{at_unit, from_0, frame_size}
use Rattle.wc_names.proofs.kept.Tables.size.Goals as goal

pub returns-in-Some : goal.returns-in-Some
returns-in-Some c = λ text scope are is.
    let r = at_unit text [] c.args.self.now.units.items c.args.unit scope are is in
    let there = ap (slice_get c.args.self.now.units.items) (from_0 r.1) ∙ r.0.there in
    let same = same_found c.deref.result.now c.args.self.now.units.items c.args.unit r.0.table c.in-Some.table.now c.deref.ensures.value there c.in-Some.ensures.lookup.3.0 c.in-Some.ensures.lookup.1 in
    c.from.ensures ∙ ap (λ (t : UnitTable). t.size) same ∙ frame_size c.args.self.now.units.items scope r.0

pub returns-in-None : goal.returns-in-None
returns-in-None c = λ text scope are is.
    let r = at_unit text [] c.args.self.now.units.items c.args.unit scope are is in
    let there = ap (slice_get c.args.self.now.units.items) (from_0 r.1) ∙ r.0.there in
    absurd (not_past c.deref.result.now c.args.self.now.units.items c.args.unit r.0.table c.deref.ensures.value there c.in-None.ensures.lookup.3)
