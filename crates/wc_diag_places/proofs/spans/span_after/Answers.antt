use Rattle.wc_model.specs.Language.Views.{text_view}
use Rattle.wc_diag_places.proofs.Placing.{costs_named, faultless}
use Rattle.wc_diag_places.proofs.spans.span_after.Goals as goal

pub returns-in-Ok-clause-accepted : goal.returns-in-Ok-clause-accepted
returns-in-Ok-clause-accepted c = λ bytes read are declared.
    let text = text_view c.args.spanned_source.now.source in
    let sound = c.in_default.ensures are in
    record { declared = declared; sound = sound; costs = c.in-Ok.ensures are (faultless bytes c.args.spanned_source.now.tokens.items text read declared sound) }

pub returns-in-Err-measure-clause-refused : goal.returns-in-Err-measure-clause-refused
returns-in-Err-measure-clause-refused c = λ bytes read are declared.
    let text = text_view c.args.spanned_source.now.source in
    let sound = c.in_default.ensures are in
    c.span_of_name.ensures bytes read
    (costs_named text c.in-Err-measure.fault declared sound (c.in-Err-measure.ensures are (faultless bytes c.args.spanned_source.now.tokens.items text read declared sound)))
