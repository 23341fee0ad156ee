use Rattle.std.proofs.Common.{◌≡◌, codes, length, pos, arith}
use Rattle.wc_model.proofs.Common.{common_steps, on_ok_weaker}
use Rattle.wc_view_decode.proofs.RowTexts.{four_words}
use Rattle.wc_view_decode.proofs.entry_formats.put_words.Goals as goal

pub returns : goal.returns
returns c =
    let words : length c.args.words.now ≡ 4 = grind (arith, common_steps) in (
      on_ok_weaker c.put_word-4.result (four_words _ _ _ _ _ (codes "  %QD0 ") (codes "  %QD1 ") (codes "  %QD2 ") (codes "  %QD3 ") c.args.words.now (pos 0) words
          c.in_ok-put_word.ensures.0 c.in_ok-put_word-2.ensures.0 c.in_ok-put_word-3.ensures.0) c.put_word-4.ensures.0,
      c.put_word-4.ensures.1,
    )
