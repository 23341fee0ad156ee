use Rattle.wc_model.proofs.Common.{◌∙◌, ap, option_map, subst, sym, slice_get}
use Rattle.wc_model.specs.Definitions.{name_of, text_view}
use Rattle.wc_model.specs.declared.source.Initial.{Initial}
use Rattle.wc_model.specs.declared.source.Source.{Source}
use Rattle.wc_names.proofs.Lists.{got_some}
use Rattle.wc_view_changes.specs.Sides.{IsSide}
use Rattle.wc_view_changes.proofs.Others.{missing_side, side_unit}
use Rattle.wc_view_changes.proofs.shape.other_literal.Goals as goal

pub returns : goal.returns
returns c = λ side h.
    let source = c.args.other.now.source in
    let number = c.in_ok-unit.field-0 in
    let there = got_some c.deref.result.now number c.in_ok-get.field-0.now c.in_ok-get.ensures.lookup.3.0 c.in_ok-get.ensures.lookup.1 in
    c.literal_in.ensures
    ∙ ap (option_map (λ (i : Initial). i.value)) (side_unit source number side c.in_ok-get.field-0.now (name_of c.args.name.now) (subst (λ u. IsSide (text_view source) u side) c.in_ok-unit.was h)
    (ap (λ xs. slice_get xs number) (sym (c.deref.ensures.value ∙ ap (λ (s : Source). s.units.items) c.source.ensures.source)) ∙ there))

pub returns-in_err-get : goal.returns-in_err-get
returns-in_err-get c = λ side h.
    let source = c.args.other.now.source in
    absurd (missing_side source c.in_ok-unit.field-0 side c.deref.result.now (subst (λ u. IsSide (text_view source) u side) c.in_ok-unit.was h) (c.deref.ensures.value ∙ ap (λ (s : Source). s.units.items) c.source.ensures.source) c.in_err-get.ensures.lookup.3)
