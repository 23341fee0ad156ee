use Rattle.std.proofs.Common.{refl}
use Rattle.wc_laws_grammar.proofs.FoundTokens.{found_cut}
use Rattle.wc_examples_language.proofs.cuts.literals.Goals as goal

pub returns-clause-whole : goal.returns-clause-whole
returns-clause-whole c = found_cut _ _ refl

pub returns-clause-duration : goal.returns-clause-duration
returns-clause-duration c = found_cut _ _ refl

pub returns-clause-truth : goal.returns-clause-truth
returns-clause-truth c = found_cut _ _ refl
