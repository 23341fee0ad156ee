use Rattle.wc_model.proofs.Common.{◌≡◌, ◌∙◌, ◌∷◌, [], ◌++◌, ap, pos, length, drop, arith, decimal, drop_of_length-le, common_steps}
use Rattle.wc_report.proofs.ScanText.{joined}
use Rattle.wc_report.proofs.lines.scan_backward.Goals as goal

pub returns-clause-text : goal.returns-clause-text
returns-clause-text c =
    let size : length c.args.outputs.now.words ≡ 4 = grind (arith, common_steps) in
    let none : drop 144 c.args.buffer.now ≡ [] = drop_of_length-le c.args.buffer.now {i = 144} (omega (arith, c.fits-buffer)) in
    joined c.args.ms c.args.steps.0 c.args.outputs.now (pos 0) size _ _ _ _ _ _ _ _ _
    (c.put_byte-at.ensures.text ∙ ap (λ t. 10 ∷ t) none)
    c.put_signed-at.ensures.text c.put_signed-at-2.ensures.text c.put_signed-at-3.ensures.text c.put_signed-at-4.ensures.text
    c.put_word-at.ensures.text
    (c.put_number-at.ensures.text ∙ ap (λ n. 32 ∷ (decimal n ++ drop c.put_word-at.result c.put_word-at.new.buffer)) c.from.ensures)
    c.put_number-at-2.ensures.text c.put_byte.ensures.text
