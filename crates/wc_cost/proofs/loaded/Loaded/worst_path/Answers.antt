use Rattle.wc_model.proofs.Common.{◌<◌, ◌≤◌, List, length, refl, sym, subst, ◌∙◌, arith, length-map, IfOk-weaker, slice_get_read}
use Rattle.wc_text_flat.specs.FlatPaths.{worst_of}
use Rattle.wc_model.specs.Language.Views.{text_view}
use Rattle.wc_model.specs.declared.code.Code.{Code}
use Rattle.wc_cost.proofs.WorstLines.{code_short, worst_holds}
use Rattle.wc_cost.specs.{bounds_of, AreWorstAt, LoadedText, AreSmall, ArePathLengths}
use Rattle.wc_cost.specs.declared.units.LoweredUnit.{LoweredUnit}
use Rattle.wc_cost.proofs.loaded.Loaded.worst_path.Goals as goal

pub returns-clause-worst : goal.returns-clause-worst
returns-clause-worst c =
    let inside = c.self.inside in
    let sound = c.self.invariant in
    let units = inside.units.items in
    let text = text_view inside.checked.source in
    let unit = c.index-lowered.result.now in
    let within : c.args.unit < length units =
    let l = subst (λ (v : LoadedText). c.args.unit < length v.codes) (sym c.self.view_is) c.requires in
    let e = length-map units (λ (u : LoweredUnit). u.code.items) in
    omega (arith, l, e)
    in
    let there = slice_get_read units (length units) c.args.unit unit refl within c.index-lowered.ensures in
    let short = code_short sound.sound.read.0 text sound.sound.read.1 units sound.sound.lowered c.args.unit unit there in
    let path_lengths = c.in_ok-path_lengths.ensures.path_lengths (subst (λ (us : List LoweredUnit). AreSmall (bounds_of us)) (sym c.deref.ensures.value) sound.small) (subst (λ (l : List Code). length l ≤ 65536) (sym c.deref-2.ensures.value) short) in
    let those : ArePathLengths (bounds_of units) c.deref-4.result.now c.deref-3.result.now = λ sources.
    c.deref-3.ensures.value ∙ path_lengths sources
    ∙ (λ i. Rattle.wc_cost.specs.PathLengths.steps_of (Rattle.wc_text_flat.specs.FlatPaths.worst_from (bounds_of (c.deref.ensures.value i)) ((c.deref-2.ensures.value ∙ sym c.deref-4.ensures.value) i) sources))
    in
    subst (λ (v : LoadedText). Rattle.std.specs.Prelude.IfOk c.worst_lines.result (λ lines. AreWorstAt (text_view v.source) c.args.unit lines.items)) c.self.view_is
    (IfOk-weaker c.worst_lines.result _ _
    (λ lines e. worst_holds sound.sound.read.0 text sound.sound.read.1 units sound.sound.lowered sound.bounds sound.lines c.args.unit unit there lines.items
    (e (bounds_of units) those ∙ (λ i. (worst_of (bounds_of units) (c.deref-4.ensures.value i) (c.deref-5.ensures.value i)).lines)))
    c.worst_lines.ensures.lines)
