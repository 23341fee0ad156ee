use Rattle.wc_model.proofs.Common.{◌≡◌, ◌+◌, ◌∷◌, [], List, Err, map, drop, refl, sym, subst, ap, ◌∙◌, arith, rules, ◌++◌, drop_all}
use Rattle.wc_names.specs.RepresentsText.{AreTables, onto}
use Rattle.wc_model.specs.Definitions.{Scope, Text, text_view, unit_view}
use Rattle.wc_model.specs.declared.source.Unit.{Unit as CodeUnit}
use Rattle.wc_cost.specs.{AreLoaded, IsFaultless, IsMeasured, LoadsUnits, MeasuresUnit, bounds_of, AreSmall}
use Rattle.wc_cost.specs.declared.units.LoweredUnit.{LoweredUnit}
use Rattle.wc_names.proofs.HandedOn.{propagated}
use Rattle.wc_names.proofs.Lists.{from_index}
use Rattle.wc_cost.proofs.Measured.{all_loaded, unit_refused}
use Rattle.wc_cost.proofs.Measured.{bounds_small, measured_sound}
use Rattle.wc_cost.proofs.TextUnits.{unit_at, unit_lowerable, unit_nests, unit_short}
use Rattle.wc_cost.proofs.units.lower_units.Goals as goal

pub loop-number-init : goal.loop-number-init
loop-number-init c = ([], refl, refl, λ tables faultless. c.new-units.ensures.items)

pub loop-number-preserved : goal.loop-number-preserved
loop-number-preserved c =
    let i = c.loop-number.number in
    let items = c.deref-unit-items.result.now in
    let text = map unit_view items in
    let unit = unit_view c.unit-item.result in
    let left = map unit_view (drop (i + 1) items) in
    let cut = from_index items i c.unit-item.result c.loop-number-test.true c.unit-item.is in
    let h = c.loop-number.invariant in
    let split : onto h.0 (unit ∷ left) ≡ text = ap (λ (xs : List CodeUnit). onto h.0 (map unit_view xs)) (sym cut) ∙ h.1 in
    let next = h.2 in (
      unit ∷ h.0,
      split,
      omega (arith, next),
      λ tables faultless.
          let so_far = h.3 tables faultless in
          let scope : Scope = record { before = h.0; unit = unit } in
          let is = unit_at text h.0 unit left i split h.2 in
          let measured = subst (λ (xs : List LoweredUnit). IsMeasured (bounds_of xs) scope c.in_ok-lowered.lowered) c.deref.ensures.value
          (c.in_ok-lowered.ensures scope (record { text = text; tables_are = tables; unit_is = is }) refl (unit_lowerable text faultless i scope is) (unit_short text faultless i scope is)
          (subst (λ (xs : List LoweredUnit). AreSmall (bounds_of xs)) (sym c.deref.ensures.value) (bounds_small h.0 c.loop-number.units.items so_far)))
          in
          (c.loop-number.units.items, c.in_ok-lowered.lowered, (let more : c.push.new.self.items ≡ c.loop-number.units.items ++ c.in_ok-lowered.lowered ∷ [] = search rules in more), measured_sound h.0 c.loop-number.units.items unit c.in_ok-lowered.lowered so_far (unit_nests text faultless i scope is) measured, so_far),
    )

pub returns-in_err-lowered : goal.returns-in_err-lowered
returns-in_err-lowered c = λ tables faultless.
    let i = c.loop-number.number in
    let items = c.deref-unit-items.result.now in
    let text = map unit_view items in
    let unit = unit_view c.unit-item.result in
    let left = map unit_view (drop (i + 1) items) in
    let same = ap (λ (xs : List CodeUnit). map unit_view xs) (sym c.deref-unit-items.ensures.value) in
    let cut = from_index items i c.unit-item.result c.loop-number-test.true c.unit-item.is in
    let h = c.loop-number.invariant in
    let split : onto h.0 (unit ∷ left) ≡ text = ap (λ (xs : List CodeUnit). onto h.0 (map unit_view xs)) (sym cut) ∙ h.1 in
    let those = subst (λ (t : Text). AreTables c.args.tables.now t) same tables in
    let right = subst IsFaultless same faultless in
    let so_far = h.3 those right in
    let scope : Scope = record { before = h.0; unit = unit } in
    let is = unit_at text h.0 unit left i split h.2 in
    let validated = subst (λ (xs : List LoweredUnit). MeasuresUnit (bounds_of xs) scope (Err c.in_err-lowered.field-0.0)) c.deref.ensures.value
    (c.in_err-lowered.ensures scope (record { text = text; tables_are = those; unit_is = is }) refl (unit_lowerable text right i scope is) (unit_short text right i scope is)
    (subst (λ (xs : List LoweredUnit). AreSmall (bounds_of xs)) (sym c.deref.ensures.value) (bounds_small h.0 c.loop-number.units.items so_far)))
    in
    propagated (LoadsUnits (text_view c.args.source.now)) c.in_err-lowered.field-0.0 c.from_residual.result c.from_residual.ensures
    (subst (λ (t : Text). LoadsUnits t (Err c.in_err-lowered.field-0.0)) (sym same) (unit_refused text h.0 c.loop-number.units.items unit left c.in_err-lowered.field-0.0 split so_far (unit_nests text right i scope is) validated))

pub returns : goal.returns
returns c = λ tables faultless.
    let items = c.deref-unit-items.result.now in
    let text = map unit_view items in
    let same = ap (λ (xs : List CodeUnit). map unit_view xs) (sym c.deref-unit-items.ensures.value) in
    let h = c.loop-number.invariant in
    let end : drop c.loop-number.number items ≡ [] = drop_all c.loop-number.number items c.loop-number-test.false in
    let split : onto h.0 [] ≡ text = ap (λ (xs : List CodeUnit). onto h.0 (map unit_view xs)) (sym end) ∙ h.1 in
    subst (λ (t : Text). AreLoaded t c.loop-number.units.items) (sym same)
    (all_loaded text h.0 c.loop-number.units.items split (h.3 (subst (λ (t : Text). AreTables c.args.tables.now t) same tables) (subst IsFaultless same faultless)))
