use Rattle.wc_model.proofs.Common.{None, Some, ap, sym, refl, ◌∙◌, length, ◌-◌, option_and_then, slice_get}
use Rattle.wc_built_in.specs.Fields.{value_kind}
use Rattle.wc_cost.proofs.WholeTexts.{last_unit}
use Rattle.wc_model.specs.Definitions.{location_of, place_number, text_view}
use Rattle.wc_text_variables.proofs.Meanings.{numbered, unnumbered}
use Rattle.wc_text_variables.proofs.variables.variable_at_location.Goals as goal

pub returns-in_err-place : goal.returns-in_err-place
returns-in_err-place c =
    let text = text_view c.args.loaded.now.source in
    let last = last_unit text c.units-units.ensures.sound.read.1.spelled.order (length text - 1) refl in
    c.from_residual.ensures ∙ unnumbered text (location_of c.args.path.now)
    (ap (λ frame. option_and_then (place_number frame) (location_of c.args.path.now)) (sym last.frame)
    ∙ sym (c.in_err-place.ensures last.scope last.is))

pub returns : goal.returns
returns c =
    let text = text_view c.args.loaded.now.source in
    let last = last_unit text c.units-units.ensures.sound.read.1.spelled.order (length text - 1) refl in
    numbered text (location_of c.args.path.now) c.in_ok-place.place.0 (Some c.in_ok-kind.kind)
    (ap (λ frame. option_and_then (place_number frame) (location_of c.args.path.now)) (sym last.frame)
    ∙ sym (c.in_ok-place.ensures last.scope last.is))
    (c.in_ok-kind.ensures ∙ ap (λ kinds. option_and_then value_kind (slice_get kinds c.in_ok-place.place.0)) c.kinds.ensures.kinds)

pub returns-in_err-kind : goal.returns-in_err-kind
returns-in_err-kind c =
    let text = text_view c.args.loaded.now.source in
    let last = last_unit text c.units-units.ensures.sound.read.1.spelled.order (length text - 1) refl in
    c.from_residual-in_err-kind.ensures ∙ numbered text (location_of c.args.path.now) c.in_ok-place.place.0 None
    (ap (λ frame. option_and_then (place_number frame) (location_of c.args.path.now)) (sym last.frame)
    ∙ sym (c.in_ok-place.ensures last.scope last.is))
    (c.in_err-kind.ensures ∙ ap (λ kinds. option_and_then value_kind (slice_get kinds c.in_ok-place.place.0)) c.kinds.ensures.kinds)
