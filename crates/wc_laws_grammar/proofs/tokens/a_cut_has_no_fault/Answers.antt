use Rattle.wc_laws_grammar.proofs.TokenLaws.{cut_has_no_fault}
use Rattle.wc_laws_grammar.proofs.tokens.a_cut_has_no_fault.Goals as goal

pub returns : goal.returns
returns c = cut_has_no_fault
