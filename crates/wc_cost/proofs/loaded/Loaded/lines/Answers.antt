use Rattle.wc_model.proofs.Common.{◌≡◌, ◌<◌, length, refl, sym, subst, ap, ◌∙◌, arith, length-map, slice_get_read}
use Rattle.std.specs.Prelude.{Some, map, slice_get}
use Rattle.wc_text_flat.specs.FlatPaths.{sources_of}
use Rattle.wc_model.specs.Language.Views.{text_view}
use Rattle.wc_cost.proofs.WorstLines.{unit_lines}
use Rattle.wc_cost.specs.LoadedTexts.{LoadedText}
use Rattle.wc_cost.specs.declared.units.LoweredUnit.{LoweredUnit}
use Rattle.wc_cost.proofs.loaded.Loaded.lines.Goals as goal

pub returns : goal.returns
returns c =
    let inside = c.self.inside in
    let within : c.args.unit < length inside.units.items =
    let l = subst (λ (v : LoadedText). c.args.unit < length v.codes) (sym c.self.view_is) c.requires in
    let e = length-map inside.units.items (λ (u : LoweredUnit). u.code.items) in
    omega (arith, l, e) in
    let there = slice_get_read inside.units.items (length inside.units.items) c.args.unit c.index.result.now refl within c.index.ensures in
    subst (λ (v : LoadedText). slice_get (map (λ u. sources_of u.body) (text_view v.source)) c.args.unit ≡ Some c.as_slice.result.now) c.self.view_is
    (unit_lines (text_view inside.checked.source) inside.units.items c.self.invariant.lines c.args.unit c.index.result.now there ∙ ap Some (sym c.as_slice.ensures.value))
