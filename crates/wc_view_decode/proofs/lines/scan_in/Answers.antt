use Rattle.std.proofs.Common.{◌∙◌, ◌++◌, ◌/◌, ◌%◌, ◌∷◌, [], decimal, lit≤, lit<, refl, arith}
use Rattle.wc_view_decode.proofs.CutLines.{scan_fields}
use Rattle.wc_view_decode.proofs.Digits.{decimal_is_field, hex_is_field}
use Rattle.wc_view_decode.specs.Lines.{words_text}
use Rattle.wc_model.specs.Run.Hex.{hex_of_word}
use Rattle.wc_view_decode.proofs.lines.scan_in.Goals as goal

pub returns-clause-scan : goal.returns-clause-scan
returns-clause-scan c ms steps outputs (below, few, word, are) e =
    let line = e ∙ scan_fields ms steps outputs.bits outputs.words are in
    let p1 = c.cut_field.ensures (83 ∷ []) (decimal ms ++ 32 ∷ (decimal steps ++ 32 ∷ (hex_of_word outputs.bits ++ 32 ∷ words_text outputs.words))) 32 (lit< tt, tt) (lit≤ tt) line in
    let p2 = c.cut_field-2.ensures (decimal ms) (decimal steps ++ 32 ∷ (hex_of_word outputs.bits ++ 32 ∷ words_text outputs.words)) 32 (decimal_is_field ms (omega (arith, below))) (lit≤ tt) p1.1 in
    let p3 = c.cut_field-3.ensures (decimal steps) (hex_of_word outputs.bits ++ 32 ∷ words_text outputs.words) 32 (decimal_is_field steps (omega (arith, few))) (lit≤ tt) p2.1 in
    let p4 = c.cut_field-4.ensures (hex_of_word outputs.bits) (words_text outputs.words) 32 (hex_is_field ((outputs.bits / 256) ∷ (outputs.bits % 256) ∷ [])) (lit≤ tt) p3.1 in
    let is_ms = c.moment.ensures.number ms below p2.0 in
    let is_steps = c.small_number.ensures steps few p3.0 in
    let is_bits = c.bits.ensures outputs.bits word p4.0 in
    let are_words = c.words_in.ensures.words outputs.words are p4.1 in
    rw (is_ms, is_steps, is_bits, are_words) refl
