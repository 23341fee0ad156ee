use Rattle.std.proofs.Common.{rules, ◌≡◌, ◌<◌, Some, length, option_map, slice_get, refl, sym, ap, subst, ◌∙◌, arith}
use Rattle.wc_model.proofs.Common.{slice_get_read, IsUtf8-from_ascii, vec_len}
use Rattle.std.specs.Prelude.{Option}
use Rattle.wc_model.specs.Definitions.{ProgramUnit, text_view, unit_view}
use Rattle.wc_cost.specs.LoadedInside.{codes_of}
use Rattle.wc_cost.specs.LoadedTexts.{LoadedText}
use Rattle.wc_cost.proofs.UnitNames.{unit_ascii, unit_found, unit_within}
use Rattle.wc_cost.proofs.loaded.Loaded.name.Goals as goal

pub index-requires : goal.index-requires
index-requires c =
    let inside = c.self.inside in
    let l = subst (λ (v : LoadedText). c.args.unit < length v.codes) (sym c.self.view_is) c.requires in
    let w = unit_within inside.checked.source c.source.result.now (codes_of inside.units.items) c.args.unit c.self.invariant.sound.lowered c.source.ensures.source l in
    let v : vec_len c.source.result.now.units ≡ length c.source.result.now.units.items = search rules in
    omega (arith, w, v)

pub returns-in-Ok : goal.returns-in-Ok
returns-in-Ok c =
    let inside = c.self.inside in
    let given = c.source.result.now in
    let l = subst (λ (v : LoadedText). c.args.unit < length v.codes) (sym c.self.view_is) c.requires in
    let within = unit_within inside.checked.source given (codes_of inside.units.items) c.args.unit c.self.invariant.sound.lowered c.source.ensures.source l in
    let there = slice_get_read given.units.items (length given.units.items) c.args.unit c.index.result.now refl within c.index.ensures in
    subst (λ (v : LoadedText). option_map (λ (u : ProgramUnit). u.spelled) (slice_get (text_view v.source) c.args.unit) ≡ Some c.in-Ok.name.now) c.self.view_is
    (ap (λ (o : Option ProgramUnit). option_map (λ (u : ProgramUnit). u.spelled) o) (unit_found inside.checked.source given c.args.unit c.index.result.now c.source.ensures.source there)
    ∙ ap Some (sym c.in-Ok.ensures.cases.0))

-- a name is ASCII
pub returns-in-Err : goal.returns-in-Err
returns-in-Err c =
    let inside = c.self.inside in
    let read = c.self.invariant.sound.read in
    let given = c.source.result.now in
    let l = subst (λ (v : LoadedText). c.args.unit < length v.codes) (sym c.self.view_is) c.requires in
    let within = unit_within inside.checked.source given (codes_of inside.units.items) c.args.unit c.self.invariant.sound.lowered c.source.ensures.source l in
    let there = slice_get_read given.units.items (length given.units.items) c.args.unit c.index.result.now refl within c.index.ensures in
    absurd (c.in-Err.ensures.cases.0 (IsUtf8-from_ascii c.index.result.now.name.text.now
    (unit_ascii read.0 (text_view inside.checked.source) read.1 c.args.unit (unit_view c.index.result.now) (unit_found inside.checked.source given c.args.unit c.index.result.now c.source.ensures.source there))))
