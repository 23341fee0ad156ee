use Rattle.wc_laws_grammar.proofs.FaultLaws.{one_text}
use Rattle.wc_laws_grammar.proofs.tokens_spell_one_text.Goals as goal

pub returns : goal.returns
returns c = one_text
