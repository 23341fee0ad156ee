use Rattle.std.proofs.Common.{◌+◌, [], ◌∷◌, is_some, option_map, ap, sym, subst, ◌∙◌}
use Rattle.wc_model.proofs.Common.{option_and_then, slice_get, position_from}
use Rattle.wc_model.specs.Definitions.{name_of, type_of, block_places, same_path, variable_places}
use Rattle.wc_names.specs.{numbered_type, Represents}
use Rattle.wc_names.specs.declared.located.VariablePlace.{VariablePlace}
use Rattle.wc_names.specs.declared.variable.Variable.{Variable as Row}
use Rattle.wc_names.proofs.Lookups.{first_found, from_row, named_rows, none_named, same_within, there_is, type_at_found, type_not_found}
use Rattle.wc_names.proofs.ScopeTables.{at_unit, from_0, frame_path}
use Rattle.wc_names.proofs.kept.Tables.variable.Goals as goal

pub returns-clause-known : goal.returns-clause-known
returns-clause-known c = λ text scope are is.
    let r = at_unit text [] c.args.self.now.units.items c.args.unit scope are is in
    let h = subst (λ ts. Represents ts scope.before scope.unit) (sym c.deref.ensures.value) r.0 in
    let name = name_of c.args.name.now in
    let there = ap (slice_get c.deref.result.now) (from_0 r.1) ∙ h.there in
    let f = from_row c.deref.result.now scope.before scope.unit h name [] c.in_ok-row.row (sym (c.row.ensures h.table there (named_rows c.deref.result.now scope.before scope.unit h)) ∙ c.in_ok-row.was) in
    there_is scope.before (type_of scope name) c.in_ok-row.row.declared (ap (option_and_then (numbered_type scope.before)) (type_at_found scope name f.v f.named) ∙ f.declared)

pub returns-clause-declared : goal.returns-clause-declared
returns-clause-declared c = λ text scope are is.
    let r = at_unit text [] c.args.self.now.units.items c.args.unit scope are is in
    let h = subst (λ ts. Represents ts scope.before scope.unit) (sym c.deref.ensures.value) r.0 in
    let name = name_of c.args.name.now in
    let there = ap (slice_get c.deref.result.now) (from_0 r.1) ∙ h.there in
    let f = from_row c.deref.result.now scope.before scope.unit h name [] c.in_ok-row.row (sym (c.row.ensures h.table there (named_rows c.deref.result.now scope.before scope.unit h)) ∙ c.in_ok-row.was) in
    sym (ap (option_and_then (numbered_type scope.before)) (type_at_found scope name f.v f.named) ∙ f.declared)

pub returns-clause-starts : goal.returns-clause-starts
returns-clause-starts c = λ text scope type are is typed names.
    let r = at_unit text [] c.args.self.now.units.items c.args.unit scope are is in
    let h = subst (λ ts. Represents ts scope.before scope.unit) (sym c.deref.ensures.value) r.0 in
    let name = name_of c.args.name.now in
    let there = ap (slice_get c.deref.result.now) (from_0 r.1) ∙ h.there in
    let f = from_row c.deref.result.now scope.before scope.unit h name names c.in_ok-row.row (sym (c.row.ensures h.table there (named_rows c.deref.result.now scope.before scope.unit h)) ∙ c.in_ok-row.was) in
    let known = sym (type_at_found scope name f.v f.named) ∙ typed in
    frame_path scope (name ∷ names) ∙ f.at_is
    ∙ ap (λ x. option_map (λ n. c.in_ok-row.row.first + n) (position_from (λ e. same_path e.0 names) 0 (variable_places (block_places scope.before) x f.v.initial))) known
    ∙ ap (option_map (λ n. c.in_ok-row.row.first + n)) (same_within scope.before type f.v.initial names)

pub returns-in_err-row-clause-known : goal.returns-in_err-row-clause-known
returns-in_err-row-clause-known c = λ text scope are is.
    let r = at_unit text [] c.args.self.now.units.items c.args.unit scope are is in
    let h = subst (λ ts. Represents ts scope.before scope.unit) (sym c.deref.ensures.value) r.0 in
    let name = name_of c.args.name.now in
    let there = ap (slice_get c.deref.result.now) (from_0 r.1) ∙ h.there in
    ap is_some c.from_residual.ensures ∙ sym (ap is_some (type_not_found scope name (none_named c.deref.result.now scope.before scope.unit h name (sym (c.row.ensures h.table there (named_rows c.deref.result.now scope.before scope.unit h)) ∙ c.in_err-row.was))))

pub returns-in_err-row-clause-declared : goal.returns-in_err-row-clause-declared
returns-in_err-row-clause-declared c = λ text scope are is.
    let r = at_unit text [] c.args.self.now.units.items c.args.unit scope are is in
    let h = subst (λ ts. Represents ts scope.before scope.unit) (sym c.deref.ensures.value) r.0 in
    let name = name_of c.args.name.now in
    let there = ap (slice_get c.deref.result.now) (from_0 r.1) ∙ h.there in
    ap (option_map (λ (v : VariablePlace). v.declared)) c.from_residual.ensures ∙ sym (ap (option_and_then (numbered_type scope.before)) (type_not_found scope name (none_named c.deref.result.now scope.before scope.unit h name (sym (c.row.ensures h.table there (named_rows c.deref.result.now scope.before scope.unit h)) ∙ c.in_err-row.was))))

pub returns-clause-begins : goal.returns-clause-begins
returns-clause-begins c = λ text scope are is.
    let r = at_unit text [] c.args.self.now.units.items c.args.unit scope are is in
    let h = subst (λ ts. Represents ts scope.before scope.unit) (sym c.deref.ensures.value) r.0 in
    let there = ap (slice_get c.deref.result.now) (from_0 r.1) ∙ h.there in
    ap (option_map (λ (row : Row). row.first)) (sym c.in_ok-row.was ∙ c.row.ensures h.table there (named_rows c.deref.result.now scope.before scope.unit h))
    ∙ first_found c.deref.result.now scope h (name_of c.args.name.now)

pub returns-in_err-row-clause-begins : goal.returns-in_err-row-clause-begins
returns-in_err-row-clause-begins c = λ text scope are is.
    let r = at_unit text [] c.args.self.now.units.items c.args.unit scope are is in
    let h = subst (λ ts. Represents ts scope.before scope.unit) (sym c.deref.ensures.value) r.0 in
    let there = ap (slice_get c.deref.result.now) (from_0 r.1) ∙ h.there in
    ap (option_map (λ (v : VariablePlace). v.first)) c.from_residual.ensures ∙ ap (option_map (λ (row : Row). row.first)) (sym c.in_err-row.was ∙ c.row.ensures h.table there (named_rows c.deref.result.now scope.before scope.unit h))
    ∙ first_found c.deref.result.now scope h (name_of c.args.name.now)
