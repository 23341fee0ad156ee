use Rattle.wc_laws_grammar.proofs.TokenSlices.{tokens_are_in_order}
use Rattle.wc_laws_grammar.proofs.tokens.tokens_are_in_order.Goals as goal

pub returns : goal.returns
returns c = tokens_are_in_order
