use Rattle.wc_model.proofs.Common.{ap, ◌∙◌, is_utf8}
use Rattle.wc_diag_texts.specs.Plain.{acts_nowhere}
use Rattle.wc_diag_texts.proofs.OnLines.{nothing_is_text}
use Rattle.wc_diag_texts.proofs.message.Message.new.Goals as goal

pub invariant_of-result-clause-text : goal.invariant_of-result-clause-text
invariant_of-result-clause-text c = ap is_utf8 c.new.ensures.items ∙ nothing_is_text

pub invariant_of-result-clause-calm : goal.invariant_of-result-clause-calm
invariant_of-result-clause-calm c = ap acts_nowhere c.new.ensures.items
