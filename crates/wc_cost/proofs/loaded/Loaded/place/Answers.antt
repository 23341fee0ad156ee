use Rattle.std.proofs.Common.{◌≡◌, ◌-◌, length, option_map, sym, subst, ap, ◌∙◌, rules}
use Rattle.wc_names.specs.{IsUnit, AreTables}
use Rattle.wc_model.specs.Definitions.{number_of_path, Scope, text_view}
use Rattle.wc_model.specs.declared.place.Place.{Place}
use Rattle.wc_cost.proofs.WholeTexts.{lowered_count}
use Rattle.wc_cost.specs.LoadedTexts.{IsProgramOf, LoadedText}
use Rattle.wc_cost.proofs.loaded.Loaded.place.Goals as goal

pub returns : goal.returns
returns c =
    let inside = c.self.inside in
    let text = text_view inside.checked.source in
    let counted : c.len.result ≡ length inside.units.items = search rules in
    let last : c.saturating_sub-last.result ≡ length text - 1 = c.saturating_sub-last.ensures ∙ ap (λ n. n - 1) (counted ∙ lowered_count text inside.units.items c.self.invariant.sound.lowered) in
    let tables = subst (λ t. AreTables t text) (sym c.tables.ensures.tables) c.tables.ensures.occur in
    subst (λ (v : LoadedText). (scope : Scope) → IsProgramOf (text_view v.source) scope → option_map (λ (p : Place). p.0) c.place.result ≡ number_of_path scope c.args.path.now) c.self.view_is
    (λ scope is. c.place.ensures.number text scope tables (subst (λ n. IsUnit text n scope) (sym last) is))
