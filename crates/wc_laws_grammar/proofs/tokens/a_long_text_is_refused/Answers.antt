use Rattle.std.proofs.Common.{arith}
use Rattle.wc_laws_grammar.proofs.TokenLaws.{long_text_is_refused}
use Rattle.wc_laws_grammar.proofs.tokens.a_long_text_is_refused.Goals as goal

pub returns-clause-law : goal.returns-clause-law
returns-clause-law c = long_text_is_refused

pub returns-clause-one_byte_too_many : goal.returns-clause-one_byte_too_many
returns-clause-one_byte_too_many c = λ text long. long_text_is_refused text (omega (arith, long))
