use Rattle.wc_model.proofs.Common.{◌∙◌, ap, take, take_min, trim_ascii_start_is, prefix_len}
use Rattle.wc_diag_stops.proofs.words.first_word.Goals as goal
use Rattle.wc_diag_stops.specs.Words.{is_word_byte}

pub returns : goal.returns
returns c =
    let text = c.trim_ascii_start-text.result.now in
    c.prefix.ensures ∙ take_min c.word_length.result text ∙ ap (λ k. take k text) c.word_length.ensures ∙ ap (λ t. take (prefix_len is_word_byte t) t) (trim_ascii_start_is c.args.text.now text c.trim_ascii_start-text.ensures.value)
