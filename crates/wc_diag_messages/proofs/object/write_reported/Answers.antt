use Rattle.wc_diag_messages.proofs.Assembled.{four_after}
use Rattle.wc_diag_messages.proofs.object.write_reported.Goals as goal

pub returns-clause-tokens : goal.returns-clause-tokens
returns-clause-tokens c =
    four_after c.write_words_if_any.result _ _ _ _ _ _ _ _ _ c.in_ok-write_severity.ensures.tokens c.in_ok-write_number.ensures.tokens (rw c.as_str.ensures at c.in_ok-write_text.ensures.tokens) c.write_words_if_any.ensures.tokens
