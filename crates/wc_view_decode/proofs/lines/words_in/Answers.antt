use Rattle.std.proofs.lemmas.Int.{to_z-of_z}
use Rattle.wc_view_decode.proofs.CutLines.{words_cut}
use mir.Syntax.{w32}
use Rattle.wc_view_decode.proofs.lines.words_in.Goals as goal

pub returns-clause-words : goal.returns-clause-words
returns-clause-words c words are e =
    rw (
      to_z-of_z w32 c.signed_number.result c.signed_number.ensures.fits,
      to_z-of_z w32 c.signed_number-2.result c.signed_number-2.ensures.fits,
      to_z-of_z w32 c.signed_number-3.result c.signed_number-3.ensures.fits,
      to_z-of_z w32 c.signed_number-4.result c.signed_number-4.ensures.fits,
    )
    (words_cut words c.args.text.now _ _ _ _ _ _ _ _ _ _ _ _ are e
    c.cut_field.ensures c.cut_field-2.ensures c.cut_field-3.ensures c.cut_field-4.ensures
    c.signed_number.ensures.number c.signed_number-2.ensures.number c.signed_number-3.ensures.number c.signed_number-4.ensures.number)
