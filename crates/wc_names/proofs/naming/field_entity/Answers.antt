use Rattle.wc_model.proofs.Common.{◌≡◌, [], ◌∷◌, Option, Some, None, option_map, refl, ap, sym, ◌∙◌, option_and_then, slice_get, position_from}
use Rattle.wc_model.specs.Definitions.{name_of, Scope, type_of, block_places, same_path, variable_places, VariableType}
use Rattle.wc_names.specs.{found_seen, numbered_type}
use Rattle.wc_names.specs.declared.entity.Entity.{Entity}
use Rattle.wc_names.proofs.Lookups.{from_row, has_capacity, named_rows, none_named, same_within, type_at_found, type_not_found}
use Rattle.wc_names.proofs.Frames.{own_places}
use Rattle.wc_names.proofs.Positions.{after_is}
use Rattle.wc_names.proofs.ScopeTables.{frame_path}
use Rattle.wc_names.specs.declared.declared_type.DeclaredType.{DeclaredType}
use Rattle.wc_names.proofs.Entities.{field_named, no_field_named, no_instance}
use Rattle.wc_names.proofs.naming.field_entity.Goals as goal

-- a type that has a number
known : (scope : Scope) (o : Option VariableType) (declared : DeclaredType) → option_and_then (numbered_type scope.before) o ≡ Some declared → (type : VariableType) × (o ≡ Some type) × (numbered_type scope.before type ≡ Some declared)
known scope None declared e = cc
known scope (Some type) declared e = (type, refl, e)

pub returns-in_err-row : goal.returns-in_err-row
returns-in_err-row c = λ scope h e.
    let name = name_of c.args.instance.now in
    let there = ap (slice_get c.args.units.now) e ∙ h.there in
    c.from_residual.ensures ∙ no_instance scope name (name_of c.args.field.now) (type_not_found scope name (none_named c.args.units.now scope.before scope.unit h name (sym (c.row.ensures h.table there (named_rows c.args.units.now scope.before scope.unit h)) ∙ c.in_err-row.was)))

pub returns : goal.returns
returns c = λ scope h e.
    let name = name_of c.args.instance.now in
    let field = name_of c.args.field.now in
    let there = ap (slice_get c.args.units.now) e ∙ h.there in
    let row = sym (c.row.ensures h.table there (named_rows c.args.units.now scope.before scope.unit h)) ∙ c.in_ok-row.was in
    let f = from_row c.args.units.now scope.before scope.unit h name (field ∷ []) c.in_ok-row.row row in
    let k = known scope (type_of scope name) c.in_ok-row.row.declared (ap (option_and_then (numbered_type scope.before)) (type_at_found scope name f.v f.named) ∙ f.declared) in
    let seen = c.in_ok-member.member in
    let own = ap (λ o. position_from (λ e. same_path e.0 (field ∷ [])) 0 (variable_places (block_places scope.before) o f.v.initial)) (sym (type_at_found scope name f.v f.named) ∙ k.1) ∙ same_within scope.before k.0 f.v.initial (field ∷ []) in
    let inner = c.in_ok-member.ensures.place scope.before scope.unit k.0 h k.2 ∙ sym own in
    let at =
    after_is c.in_ok-row.row.first seen.place c.offset_by.result _ c.offset_by.ensures.some c.offset_by.ensures.none inner (has_capacity c.in_ok-row.row.first (own_places scope.before f.v) (field ∷ []) h.table.size f.capacity h.is.small)
    ∙ sym f.at_is
    in
    let place = c.place_at.ensures.place ∙ ap (option_map (λ n. record { 0 = n })) (at ∙ sym (frame_path scope (name ∷ field ∷ []))) in
    let found : Entity = record { kind = seen.kind; readable = c.is_result.result; writable = c.is_input.result; place = c.place_at.result } in
    (λ i. Some (record found { readable = c.is_result.ensures i; writable = c.is_input.ensures i; place = place i }))
    ∙ field_named scope name field k.0 (found_seen seen) k.1 (sym (ap (option_map found_seen) c.in_ok-member.was) ∙ c.member_of.ensures.seen scope.before scope.unit k.0 h k.2)

pub returns-in_err-member : goal.returns-in_err-member
returns-in_err-member c = λ scope h e.
    let name = name_of c.args.instance.now in
    let there = ap (slice_get c.args.units.now) e ∙ h.there in
    let f = from_row c.args.units.now scope.before scope.unit h name [] c.in_ok-row.row (sym (c.row.ensures h.table there (named_rows c.args.units.now scope.before scope.unit h)) ∙ c.in_ok-row.was) in
    let k = known scope (type_of scope name) c.in_ok-row.row.declared (ap (option_and_then (numbered_type scope.before)) (type_at_found scope name f.v f.named) ∙ f.declared) in
    c.from_residual-in_err-member.ensures ∙ no_field_named scope name (name_of c.args.field.now) k.0 k.1 (sym (ap (option_map found_seen) c.in_err-member.was) ∙ c.member_of.ensures.seen scope.before scope.unit k.0 h k.2)
