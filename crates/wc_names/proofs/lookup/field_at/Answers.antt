use Rattle.wc_model.proofs.Common.{ℕ, List, [], ◌∷◌, map, Option, ap, sym, ◌∙◌, position_from}
use Rattle.std.specs.Borrow.{Bor}
use Rattle.wc_model.specs.Definitions.{Name, name_of, Content, same_path, standard_fields}
use Rattle.wc_model.specs.declared.block.StandardBlock.{StandardBlock}
use Rattle.wc_names.proofs.Lookups.{empty_list, field_of_more, field_of_none, field_of_one}
use Rattle.wc_names.proofs.lookup.field_at.Goals as goal

-- where a path leads among a block's fields
abbrev field_of : StandardBlock → List Name → Option ℕ
field_of block names = position_from (λ (e : List Name × Content). same_path e.0 names) 0 (map (λ f. (f.0 ∷ [], f.1)) (standard_fields block))

abbrev names_of : List (Bor (List ℕ)) → List Name
names_of names = map (λ n. name_of n.now) names

pub returns-in_err-name : goal.returns-in_err-name
returns-in_err-name c =
    c.from_residual.ensures ∙ field_of_none (standard_fields c.args.block) ∙ ap (λ xs. field_of c.args.block (names_of xs)) (sym (empty_list c.args.names.now c.in_err-name.ensures.cases))

pub returns-in-Some : goal.returns-in-Some
returns-in-Some c =
    let next = c.in-Some.field-0 in
    field_of_more (standard_fields c.args.block) (name_of c.in_ok-name.name.now.now) (name_of next.0.now.now) (names_of next.1.now)
    ∙ ap (λ xs. field_of c.args.block (name_of c.in_ok-name.name.now.now ∷ names_of xs)) (sym c.in-Some.ensures.cases.0) ∙ ap (λ xs. field_of c.args.block (names_of xs)) (sym c.in_ok-name.ensures.cases.0)

pub returns : goal.returns
returns c =
    c.in_ok-field_named.ensures.number ∙ field_of_one (standard_fields c.args.block) (name_of c.in_ok-name.name.now.now)
    ∙ ap (λ xs. field_of c.args.block (name_of c.in_ok-name.name.now.now ∷ names_of xs)) (sym (empty_list c.in_ok-name.rest.now c.in_default.ensures.cases)) ∙ ap (λ xs. field_of c.args.block (names_of xs)) (sym c.in_ok-name.ensures.cases.0)

pub returns-in_err-field_named : goal.returns-in_err-field_named
returns-in_err-field_named c =
    c.from_residual-in_err-field_named.ensures ∙ c.in_err-field_named.ensures.number ∙ field_of_one (standard_fields c.args.block) (name_of c.in_ok-name.name.now.now)
    ∙ ap (λ xs. field_of c.args.block (name_of c.in_ok-name.name.now.now ∷ names_of xs)) (sym (empty_list c.in_ok-name.rest.now c.in_default.ensures.cases)) ∙ ap (λ xs. field_of c.args.block (names_of xs)) (sym c.in_ok-name.ensures.cases.0)
