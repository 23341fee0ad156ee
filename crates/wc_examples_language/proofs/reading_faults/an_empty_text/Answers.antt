use Rattle.std.proofs.Common.{refl}
use Rattle.std.specs.Prelude.{[]}
use Rattle.wc_laws_grammar.proofs.Spelling.{spelling}
use Rattle.wc_examples_language.proofs.reading_faults.an_empty_text.Goals as goal

pub returns : goal.returns
returns c = ([], search spelling depth 60 fits 20000, tt, refl)
