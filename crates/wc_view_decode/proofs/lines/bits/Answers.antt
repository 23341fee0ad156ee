use Rattle.wc_model.proofs.Common.{◌∙◌, ap, from_be_bytes}
use Rattle.wc_view_decode.proofs.Digits.{word_again, word_decoded}
use mir.Syntax.{w16}
use Rattle.wc_view_decode.proofs.lines.bits.Goals as goal

pub returns : goal.returns
returns c word below e =
    let decoded = word_decoded c.args.field.now word below e in
    let given = c.decode_to_slice-whole.ensures.value in
    let both = rw decoded at given in
    c.from_be_bytes.ensures ∙ ap (from_be_bytes w16) both.1 ∙ word_again word
