use Rattle.std.proofs.Common.{◌∙◌, ◌+◌, ◌≤◌, ap, arith, length, length-drop}
use Rattle.wc_model.proofs.Common.{is_ascii_alphabetic, prefix_len}
use Rattle.wc_lexer.proofs.FirstParts.{takes_some, first_cut}
use Rattle.wc_lexer.proofs.durations.first_part.Goals as goal

pub returns-clause-first : goal.returns-clause-first
returns-clause-first c =
    first_cut c.args.text.now c.requires c.letterless_length.result c.letterless_length.ensures.longest c.split_at.result.0.now c.split_at.result.1.now c.split_at.ensures.front c.split_at.ensures.back c.letters_length.result c.letters_length.ensures.longest c.split_at-2.result.0.now c.split_at-2.result.1.now c.split_at-2.ensures.front c.split_at-2.ensures.back

pub returns-clause-shorter : goal.returns-clause-shorter
returns-clause-shorter c =
    let n = c.letterless_length.result in
    let m = c.letters_length.result in
    let some : 1 ≤ n + m = takes_some c.args.text.now c.requires n c.letterless_length.ensures.longest m (c.letters_length.ensures.longest ∙ ap (prefix_len is_ascii_alphabetic) c.split_at.ensures.back) in
    omega (arith, some, ap length c.split_at-2.ensures.back, ap length c.split_at.ensures.back, length-drop m c.split_at.result.1.now, length-drop n c.args.text.now)
