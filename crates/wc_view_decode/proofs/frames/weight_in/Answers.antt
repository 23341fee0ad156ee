use Rattle.std.proofs.Common.{◌∙◌, subst, sym}
use Rattle.wc_view_decode.proofs.Framed.{all_found, no_unit, not_framed}
use Rattle.wc_view_decode.specs.AnswerBytes.{IsAnswerOf}
use Rattle.wc_view_decode.proofs.frames.weight_in.Goals as goal

pub returns-then-not-is_framed : goal.returns-then-not-is_framed
returns-then-not-is_framed c = not_framed c.args.frame.now c.requires (sym c.is_framed.ensures ∙ c.if-not-is_framed.true)

pub returns-in_err-of_letters : goal.returns-in_err-of_letters
returns-in_err-of_letters c =
    subst (λ found. IsAnswerOf found c.args.frame.now) (sym c.from_residual-in_err-of_letters.ensures)
    (no_unit c.args.frame.now c.of_letters.result c.requires c.of_letters.ensures (λ x e. cc (sym c.in_err-of_letters.was ∙ e)))

pub returns : goal.returns
returns c =
    all_found c.args.frame.now c.requires c.of_letter.result c.of_letter-2.result c.stable_of_letter.result c.of_letters.result
    c.of_letter.ensures c.of_letter-2.ensures c.stable_of_letter.ensures c.of_letters.ensures _
    (sym c.is_framed.ensures ∙ c.if-not-is_framed.false) c.in_ok-of_letter.was c.in_ok-of_letter-2.was c.in_ok-stable_of_letter.was c.in_ok-of_letters.was
    c.copy_from_slice.ensures.after search
