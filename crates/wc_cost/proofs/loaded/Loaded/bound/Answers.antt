use Rattle.wc_model.proofs.Common.{◌<◌, length, refl, sym, subst, arith, length-map, slice_get_read}
use Rattle.wc_model.specs.Definitions.{text_view, IsBoundAt}
use Rattle.wc_cost.proofs.WorstLines.{bound_holds}
use Rattle.wc_cost.specs.LoadedTexts.{LoadedText}
use Rattle.wc_cost.specs.declared.units.LoweredUnit.{LoweredUnit}
use Rattle.wc_cost.proofs.loaded.Loaded.bound.Goals as goal

-- src/loaded.rt:58:5
pub returns : goal.returns
returns c =
    let inside = c.self.inside in
    let sound = c.self.invariant in
    let within : c.args.unit < length inside.units.items =
    let l = subst (λ (v : LoadedText). c.args.unit < length v.codes) (sym c.self.view_is) c.requires in
    let e = length-map inside.units.items (λ (u : LoweredUnit). u.code.items) in
    omega (arith, l, e) in
    subst (λ (v : LoadedText). IsBoundAt (text_view v.source) c.args.unit c.index.result.now.bound) c.self.view_is
    (bound_holds sound.sound.read.0 (text_view inside.checked.source) sound.sound.read.1 inside.units.items sound.sound.lowered sound.bounds c.args.unit c.index.result.now
    (slice_get_read inside.units.items (length inside.units.items) c.args.unit c.index.result.now refl within c.index.ensures))
