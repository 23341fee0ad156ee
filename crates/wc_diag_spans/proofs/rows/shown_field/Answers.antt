use Rattle.wc_model.proofs.Common.{◌≡◌, ◌∙◌, [], length, take, ap, arith, unwrap_or, length-take, take_min}
use Rattle.wc_diag_spans.proofs.rows.shown_field.Goals as goal

pub returns-in-Some-clause-field : goal.returns-in-Some-clause-field
returns-in-Some-clause-field c = c.prefix.ensures ∙ take_min 16384 c.in-Some.field.now ∙ ap (λ o. take 16384 (unwrap_or o [])) c.in-Some.ensures

pub returns-in-Some-clause-short : goal.returns-in-Some-clause-short
returns-in-Some-clause-short c =
    let cut : length c.prefix.result.now ≡ length (take 16384 c.in-Some.field.now) = ap length (c.prefix.ensures ∙ take_min 16384 c.in-Some.field.now) in
    omega (arith, cut, length-take 16384 c.in-Some.field.now)
