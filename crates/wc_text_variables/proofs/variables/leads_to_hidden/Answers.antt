use Rattle.wc_model.proofs.Common.{◌≡◌, ◌+◌, ◌-◌, ◌<◌, ◌∙◌, ℕ, Bool, Bor, List, Option, Some, None, ap, drop, get_or, length, map, subst, sym, drop_all}
use Rattle.std.specs.Prelude.{option_and_then, option_map}
use Rattle.wc_cost.proofs.WholeTexts.{last_unit}
use Rattle.wc_model.specs.Definitions.{Name, name_of, Scope, type_of, Path, Text, text_view}
use Rattle.wc_model.specs.declared.source.Source.{Source}
use Rattle.wc_names.proofs.Lists.{from_index}
use Rattle.wc_names.specs.{IsUnit, numbered_type, AreTables}
use Rattle.wc_names.specs.declared.declared_type.DeclaredType.{DeclaredType}
use Rattle.wc_names.specs.declared.declared_type.DeclaredType.TheVariants as numbered
use Rattle.wc_names.specs.declared.kept.Tables.{Tables}
use Rattle.wc_names.specs.declared.located.VariablePlace.{VariablePlace}
use Rattle.wc_text_variables.proofs.Walks.{Walks, WalksOn, from_program, walk_on}
use Rattle.wc_text_variables.proofs.variables.leads_to_hidden.Goals as goal
use Rattle.wc_text_variables.specs.Names.{is_hidden}

-- what the name of that number leads to, whose variable has this type by the tables of the text
led : {source read : Source} {tables given : Tables} (unit index : ℕ) (names : List (Bor Name)) (name : Bor Name) {whole : Bool} {found : Option DeclaredType} (declared : Option DeclaredType)
    → read ≡ source → tables ≡ given → AreTables given (text_view read) → index < length names → name ≡ get_or names index name
    → Walks (text_view source) unit (map (λ name. name_of name.now) (drop index names)) whole
    → ((text : Text) (scope : Scope) → AreTables tables text → IsUnit text unit scope → found ≡ option_and_then (numbered_type scope.before) (type_of scope (name_of name.now))) → found ≡ declared
    → WalksOn (text_view source) (map (λ name. name_of name.now) (drop (index + 1) names)) whole declared
led {source} {read} {tables} {given} unit index names name {whole} {found} declared same kept occur below is walks says typed =
    let text = text_view source in
    let here = subst (λ (left : List (Bor Name)). Walks text unit (map (λ name. name_of name.now) left) whole) (from_index names index name below is) walks in
    let are = subst (λ t. AreTables t text) (sym kept) (subst (λ (s : Source). AreTables given (text_view s)) same occur) in
    subst (WalksOn text (map (λ name. name_of name.now) (drop (index + 1) names)) whole) (sym (says text here.scope are here.is) ∙ typed)
    (walk_on text unit (name_of name.now) (map (λ name. name_of name.now) (drop (index + 1) names)) whole here)

-- the type of a variable that is found
of_type : {found known : Option VariablePlace} → found ≡ known → option_map (λ (v : VariablePlace). v.declared) found ≡ option_map (λ (v : VariablePlace). v.declared) known
of_type is = ap (option_map (λ (v : VariablePlace). v.declared)) is

pub loop-index-init : goal.loop-index-init
loop-index-init c =
    let text = text_view c.args.loaded.now.source in
    from_program text c.saturating_sub-unit.result
    (last_unit text c.units.ensures.sound.read.1.spelled.order c.saturating_sub-unit.result (c.saturating_sub-unit.ensures ∙ ap (λ n. n - 1) c.units.ensures.count))
    (map (λ name. name_of name.now) c.args.names.now)

-- with no name left nothing is hidden
pub returns-in_default : goal.returns-in_default
returns-in_default c =
    let whole = is_hidden (text_view c.args.loaded.now.source) (Path (map (λ name. name_of name.now) c.args.names.now)) in
    (subst (λ (left : List (Bor Name)). Walks (text_view c.args.loaded.now.source) c.loop-index.unit (map (λ name. name_of name.now) left) whole)
    (drop_all c.loop-index.index c.args.names.now c.in_default.ensures.lookup.3) c.loop-index.invariant).same

pub returns-in-Standard : goal.returns-in-Standard
returns-in-Standard c =
    c.is_hidden_at.ensures
    ∙ led c.loop-index.unit c.loop-index.index c.args.names.now c.in-Some.name.now (Some (numbered.Standard c.in-Standard.block))
    c.checked.ensures c.tables-tables.ensures.tables c.tables-tables.ensures.occur c.in-Some.ensures.lookup.3.0 c.in-Some.ensures.lookup.1
    c.loop-index.invariant c.variable.ensures.declared (of_type c.in-Some-variable.is ∙ ap Some c.in-Standard.is)

pub returns-in_default-variable : goal.returns-in_default-variable
returns-in_default-variable c =
    led c.loop-index.unit c.loop-index.index c.args.names.now c.in-Some.name.now None
    c.checked.ensures c.tables-tables.ensures.tables c.tables-tables.ensures.occur c.in-Some.ensures.lookup.3.0 c.in-Some.ensures.lookup.1
    c.loop-index.invariant c.variable.ensures.declared (of_type c.in_default-variable.is)

pub returns-in-Elementary : goal.returns-in-Elementary
returns-in-Elementary c =
    led c.loop-index.unit c.loop-index.index c.args.names.now c.in-Some.name.now (Some (numbered.Elementary c.in-Elementary.field-0))
    c.checked.ensures c.tables-tables.ensures.tables c.tables-tables.ensures.occur c.in-Some.ensures.lookup.3.0 c.in-Some.ensures.lookup.1
    c.loop-index.invariant c.variable.ensures.declared (of_type c.in-Some-variable.is ∙ ap Some c.in-Elementary.is)

pub loop-index-preserved : goal.loop-index-preserved
loop-index-preserved c =
    led c.loop-index.unit c.loop-index.index c.args.names.now c.in-Some.name.now (Some (numbered.Block c.in-Block.block))
    c.checked.ensures c.tables-tables.ensures.tables c.tables-tables.ensures.occur c.in-Some.ensures.lookup.3.0 c.in-Some.ensures.lookup.1
    c.loop-index.invariant c.variable.ensures.declared (of_type c.in-Some-variable.is ∙ ap Some c.in-Block.is)
