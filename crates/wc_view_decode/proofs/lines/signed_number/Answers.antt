use Rattle.wc_model.proofs.Common.{◌≡◌, ◌∙◌, pos, ap, arith, IsAscii-signed, parse-signed_decimal, IsUtf8-from_ascii, to_z-of_z, result_unwrap_or}
use mir.Syntax.{w32}
use Rattle.wc_view_decode.proofs.Digits.{given_of}
use Rattle.wc_view_decode.proofs.lines.signed_number.Goals as goal

pub returns-clause-number : goal.returns-clause-number
returns-clause-number c z fits e =
    let utf8 = IsUtf8-from_ascii c.args.field.now (rw e (IsAscii-signed z (omega (arith, fits.sfits)))) in
    let text = given_of _ _ c.from_utf8.result _ _ c.from_utf8.ensures.cases (λ fault not. not.0 utf8) c.unwrap_or-text.ensures in
    let read = parse-signed_decimal w32 z _ c.parse.result fits (omega (arith, fits.sfits)) (text.0 ∙ e) c.parse.ensures.value.0 in
    let given = c.unwrap_or.ensures in
    let value : c.unwrap_or.result ≡ z = given ∙ ap (λ r. result_unwrap_or r (pos 0)) read in
    rw value (to_z-of_z w32 z fits)
