use Rattle.std.proofs.Common.{ap, ◌∙◌}
use Rattle.std.specs.Prelude.{option_and_then, option_map}
use Rattle.wc_model.specs.Definitions.{frame_of, place_number, Direct}
use Rattle.wc_names.proofs.lookup.address.Goals as goal

pub returns : goal.returns
returns c = λ scope h e.
    c.direct_number.ensures scope h e c.in_ok-number.ensures.small
    ∙ ap (λ v. option_and_then (place_number (frame_of scope)) (option_map Direct v)) c.in_ok-number.ensures.variable

pub returns-in_err-number : goal.returns-in_err-number
returns-in_err-number c = λ scope h e.
    c.from_residual.ensures ∙ ap (λ v. option_and_then (place_number (frame_of scope)) (option_map Direct v)) c.in_err-number.ensures.variable
