use Rattle.std.proofs.Common.{◌≡◌, ◌-◌, length, Ok, Err, refl, sym, subst, ap, ◌∙◌, rules}
use Rattle.wc_model.specs.Definitions.{first_numbers, slot_kinds, text_view}
use Rattle.wc_names.proofs.HandedOn.{propagated}
use Rattle.wc_cost.specs.LoadedTexts.{IsCosted}
use Rattle.wc_cost.proofs.TextUnits.{read_is_spelled}
use Rattle.wc_cost.proofs.WholeTexts.{lowered_count, last_unit, of_same, refused}
use Rattle.wc_cost.proofs.units.cost.Goals as goal

pub returns-in_err-units : goal.returns-in_err-units
returns-in_err-units c =
    propagated (IsCosted (text_view c.args.checked.source) c.args.checked.source) c.in_err-units.field-0.0 c.from_residual.result c.from_residual.ensures
    (refused c.args.checked.source c.in_err-units.field-0.0
    (of_same (Err c.in_err-units.field-0.0) c.tables.result.now c.args.checked.tables c.source.result.now c.args.checked.source c.tables.ensures.tables c.source.ensures.source c.in_err-units.ensures
    c.tables.ensures.occur (record { read = read_is_spelled (text_view c.args.checked.source) c.source.ensures.read; declared = c.source.ensures.declared; sound = c.source.ensures.sound })))

pub returns : goal.returns
returns c =
    let loaded = of_same (Ok c.in_ok-units.units) c.tables.result.now c.args.checked.tables c.source.result.now c.args.checked.source c.tables.ensures.tables c.source.ensures.source c.in_ok-units.ensures
    c.tables.ensures.occur (record { read = read_is_spelled (text_view c.args.checked.source) c.source.ensures.read; declared = c.source.ensures.declared; sound = c.source.ensures.sound })
    in
    (refl, loaded.costs)

pub invariant_of-result : goal.invariant_of-result
invariant_of-result c =
    let text = text_view c.args.checked.source in
    let loaded = of_same (Ok c.in_ok-units.units) c.tables.result.now c.args.checked.tables c.source.result.now c.args.checked.source c.tables.ensures.tables c.source.ensures.source c.in_ok-units.ensures
    c.tables.ensures.occur (record { read = read_is_spelled (text_view c.args.checked.source) c.source.ensures.read; declared = c.source.ensures.declared; sound = c.source.ensures.sound })
    in
    let counted : c.len.result ≡ length c.in_ok-units.units.items = search rules in
    let count : c.len.result ≡ length text = counted ∙ lowered_count text c.in_ok-units.units.items loaded.lowered in
    let last = last_unit text c.source.ensures.read.1.spelled.order c.saturating_sub-last.result (c.saturating_sub-last.ensures ∙ ap (λ n. n - 1) count) in
    let occur = subst (λ t. Rattle.wc_names.specs.RepresentsText.AreTables t text) (sym c.tables-2.ensures.tables) c.tables-2.ensures.occur in
    record {
      sound = record { read = c.source.ensures.read; sound = c.source.ensures.sound; lowered = loaded.lowered };
      lines = loaded.lines;
      bounds = loaded.bounds;
      small = loaded.small;
      kinds = c.in_ok-frame.ensures.kinds text last.scope occur last.is ∙ ap slot_kinds last.frame;
      few = c.in_ok-frame.ensures.few text last.scope occur last.is;
      initials = c.in_ok-frame.ensures.initials text last.scope occur last.is ∙ ap first_numbers last.frame;
      first = c.in_ok-frame.ensures.first;
    }
