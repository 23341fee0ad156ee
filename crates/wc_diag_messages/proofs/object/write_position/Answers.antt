use Rattle.wc_diag_messages.proofs.Assembled.{four_after}
use Rattle.wc_diag_messages.proofs.object.write_position.Goals as goal

pub returns-clause-tokens : goal.returns-clause-tokens
returns-clause-tokens c =
    four_after c.write_words_if_any.result _ _ _ _ _ _ _ _ _ c.in_ok-write_number_if_any.ensures.tokens (rw c.first_column.ensures at c.in_ok-write_number_if_any-2.ensures.tokens)
    (rw c.column_after.ensures at c.in_ok-write_number_if_any-3.ensures.tokens) c.write_words_if_any.ensures.tokens
