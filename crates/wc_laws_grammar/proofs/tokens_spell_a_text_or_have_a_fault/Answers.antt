use Rattle.wc_laws_grammar.proofs.FaultLaws.{text_or_fault}
use Rattle.wc_laws_grammar.proofs.tokens_spell_a_text_or_have_a_fault.Goals as goal

pub returns : goal.returns
returns c = text_or_fault
