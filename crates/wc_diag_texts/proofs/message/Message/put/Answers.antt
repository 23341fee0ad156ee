use Rattle.std.proofs.Common.{arith}
use Rattle.wc_diag_texts.proofs.Calm.{ascii_is_calm, calm_joined}
use Rattle.wc_diag_texts.proofs.OnLines.{ascii_is_text, text_joined}
use Rattle.wc_diag_texts.proofs.message.Message.put.Goals as goal

pub invariant_of-self-clause-text : goal.invariant_of-self-clause-text
invariant_of-self-clause-text c = grind (arith, text_joined, ascii_is_text)

pub invariant_of-self-clause-calm : goal.invariant_of-self-clause-calm
invariant_of-self-clause-calm c = grind (arith, calm_joined, ascii_is_calm, ascii_is_text)
