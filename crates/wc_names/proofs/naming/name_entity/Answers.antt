use Rattle.wc_model.proofs.Common.{[], ◌∷◌, Some, true, not, option_map, ap, sym, ◌∙◌, slice_get}
use Rattle.wc_model.specs.Language.Names.{name_of}
use Rattle.wc_names.specs.declared.entity.Entity.{Entity}
use Rattle.wc_names.proofs.Lookups.{from_row, named_rows, none_named}
use Rattle.wc_names.proofs.ScopeTables.{frame_path}
use Rattle.wc_names.proofs.Entities.{name_named, no_name_named}
use Rattle.wc_names.proofs.naming.name_entity.Goals as goal

pub returns : goal.returns
returns c = λ scope h e.
    let name = name_of c.args.name.now in
    let there = ap (slice_get c.args.units.now) e ∙ h.there in
    let row = sym (c.row.ensures h.table there (named_rows c.args.units.now scope.before scope.unit h)) ∙ c.in_ok-row.was in
    let f = from_row c.args.units.now scope.before scope.unit h name [] c.in_ok-row.row row in
    let place = c.place_at.ensures.place ∙ ap (option_map (λ n. record { 0 = n })) (c.number_after.ensures scope.before scope.unit h name row ∙ sym (frame_path scope (name ∷ []))) in
    let found : Entity = record { kind = c.kind_of.result; readable = true; writable = not c.is_input.result; place = c.place_at.result } in
    (λ i. Some (record found { kind = c.kind_of.ensures i; writable = not (c.is_input.ensures i); place = place i })) ∙ name_named scope name f.v c.in_ok-row.row f.named f.declared f.section f.spelled

pub returns-in_err-row : goal.returns-in_err-row
returns-in_err-row c = λ scope h e.
    let name = name_of c.args.name.now in
    let there = ap (slice_get c.args.units.now) e ∙ h.there in
    c.from_residual.ensures ∙ no_name_named scope name (none_named c.args.units.now scope.before scope.unit h name (sym (c.row.ensures h.table there (named_rows c.args.units.now scope.before scope.unit h)) ∙ c.in_err-row.was))
