use Rattle.wc_laws_grammar.proofs.TokenLaws.{first_fault_is_unique}
use Rattle.wc_laws_grammar.proofs.tokens.a_first_fault_is_unique.Goals as goal

pub returns : goal.returns
returns c = first_fault_is_unique
