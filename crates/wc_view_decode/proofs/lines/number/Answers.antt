use Rattle.wc_model.proofs.Common.{◌∙◌, ap, IsAscii-decimal, parse-decimal, IsUtf8-from_ascii, result_unwrap_or}
use Rattle.wc_view_decode.proofs.Digits.{given_of}
use Rattle.wc_view_decode.proofs.lines.number.Goals as goal

pub returns : goal.returns
returns c n below e =
    let utf8 = IsUtf8-from_ascii c.args.field.now (rw e (IsAscii-decimal n below)) in
    let text = given_of _ _ c.from_utf8.result _ _ c.from_utf8.ensures.cases (λ fault not. not.0 utf8) c.unwrap_or-text.ensures in
    let read = parse-decimal 64 n _ c.parse.result below below (text.0 ∙ e) c.parse.ensures.value.0 in
    c.unwrap_or.ensures ∙ ap (λ r. result_unwrap_or r 0) read
