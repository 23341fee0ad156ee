use Rattle.wc_laws_grammar.proofs.TokenLaws.{cut_is_unique}
use Rattle.wc_laws_grammar.proofs.tokens.a_cut_is_unique.Goals as goal

pub returns : goal.returns
returns c = cut_is_unique
