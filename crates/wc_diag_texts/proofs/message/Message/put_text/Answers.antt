use Rattle.wc_model.proofs.Common.{arith, list_all-append}
use Rattle.wc_diag_texts.proofs.Calm.{calm_joined, passing_is_calm}
use Rattle.wc_diag_texts.proofs.OnLines.{passing_is_plain, passing_is_text, text_joined}
use Rattle.wc_diag_texts.proofs.message.Message.put_text.Goals as goal

pub invariant_of-self-clause-plain : goal.invariant_of-self-clause-plain
invariant_of-self-clause-plain c = grind (arith, list_all-append, passing_is_plain)

pub invariant_of-self-clause-text : goal.invariant_of-self-clause-text
invariant_of-self-clause-text c = grind (arith, text_joined, passing_is_text)

pub invariant_of-self-clause-calm : goal.invariant_of-self-clause-calm
invariant_of-self-clause-calm c = grind (arith, calm_joined, passing_is_calm, passing_is_text)
