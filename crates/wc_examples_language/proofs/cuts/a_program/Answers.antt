use Rattle.std.proofs.Common.{refl}
use Rattle.wc_laws_grammar.proofs.FoundTokens.{found_cut}
use Rattle.wc_examples_language.proofs.cuts.a_program.Goals as goal

pub returns : goal.returns
returns c = found_cut _ _ refl
