use Rattle.std.proofs.Common.{ap, ◌∙◌, ◌==◌, drop, take}
use Rattle.wc_lexer.proofs.Cuts.{cut_some}
use Rattle.wc_lexer.proofs.prefixes.cut_at.Goals as goal

pub returns-in-len1-up : goal.returns-in-len1-up
returns-in-len1-up c =
    cut_some (λ byte. byte == c.args.mark) c.args.text.now c.split_at.result.0.now c.split_at.result.1.now (c.split_at.ensures.front ∙ ap (λ n. take n c.args.text.now) c.length_before.ensures.first) (c.split_at.ensures.back ∙ ap (λ n. drop n c.args.text.now) c.length_before.ensures.first) c.in-len1-up.len_at_least
