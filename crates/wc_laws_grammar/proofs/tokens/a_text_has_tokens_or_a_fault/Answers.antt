use Rattle.wc_laws_grammar.proofs.FoundTokens.{cut_or_fault}
use Rattle.wc_laws_grammar.proofs.tokens.a_text_has_tokens_or_a_fault.Goals as goal

pub returns : goal.returns
returns c = cut_or_fault
