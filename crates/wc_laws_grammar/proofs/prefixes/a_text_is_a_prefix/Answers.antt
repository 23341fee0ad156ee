use Rattle.wc_model.specs.Definitions.{Text, Spells}
use Rattle.wc_laws_grammar.proofs.FirstFaults.{whole_is_prefix}
use Rattle.wc_laws_grammar.proofs.prefixes.a_text_is_a_prefix.Goals as goal

pub returns : goal.returns
returns c = λ tokens text h. whole_is_prefix (λ tokens. (text : Text) × Spells tokens text) tokens (text, h)
