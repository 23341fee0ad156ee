use Rattle.wc_model.specs.Definitions.{Text, Spells}
use Rattle.wc_laws_grammar.proofs.FirstFaults.{prefix_of_prefix}
use Rattle.wc_laws_grammar.proofs.prefixes.a_prefix_of_a_prefix_is_one.Goals as goal

pub returns : goal.returns
returns c = λ prefix more h. prefix_of_prefix (λ tokens. (text : Text) × Spells tokens text) prefix more h
