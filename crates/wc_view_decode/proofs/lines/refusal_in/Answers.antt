use Rattle.std.proofs.Common.{◌∙◌, ◌++◌, ◌∷◌, [], codes, decimal, lit≤, lit<, refl, arith}
use Rattle.wc_view_decode.proofs.CutLines.{refusal_fields}
use Rattle.wc_view_decode.proofs.Digits.{decimal_is_field, known_below}
use Rattle.wc_view_decode.proofs.lines.refusal_in.Goals as goal

pub returns-clause-refusal : goal.returns-clause-refusal
returns-clause-refusal c number place (short, small) e =
    let line = e ∙ refusal_fields number place in
    let p1 = c.cut_field.ensures (codes "refused") (decimal number ++ 32 ∷ (decimal place ++ 10 ∷ [])) 32
    (lit< tt, (lit< tt, (lit< tt, (lit< tt, (lit< tt, (lit< tt, (lit< tt, tt))))))) (lit≤ tt) line in
    let p2 = c.cut_field-2.ensures (decimal number) (decimal place ++ 10 ∷ []) 32 (decimal_is_field number (omega (arith, known_below number short))) (lit≤ tt) p1.1 in
    let p3 = c.cut_field-3.ensures (decimal place) [] 10 (decimal_is_field place (omega (arith, small))) (lit≤ tt) p2.1 in
    rw (c.refusal_number.ensures.number number short p2.0, c.small_number.ensures place small p3.0) refl
