use Rattle.wc_model.proofs.Common.{rules, ◌≡◌, [], length, sym, subst, ◌∙◌, length-map}
use Rattle.wc_text_flat.proofs.Programs.{codes_length}
use Rattle.wc_model.specs.Language.Views.{text_view}
use Rattle.wc_cost.specs.LoadedInside.{codes_of}
use Rattle.wc_cost.specs.LoadedTexts.{LoadedText}
use Rattle.wc_cost.specs.declared.units.LoweredUnit.{LoweredUnit}
use Rattle.wc_cost.proofs.loaded.Loaded.units.Goals as goal

-- src/loaded.rt:41:5
pub returns-clause-count : goal.returns-clause-count
returns-clause-count c =
    let inside = c.self.inside in
    let counted : c.len.result ≡ length inside.units.items = search rules in
    subst (λ (v : LoadedText). c.len.result ≡ length (text_view v.source)) c.self.view_is
    (counted ∙ (sym (length-map inside.units.items (λ (u : LoweredUnit). u.code.items)) ∙ codes_length [] (text_view inside.checked.source) (codes_of inside.units.items) c.self.invariant.sound.lowered))
