use Rattle.std.proofs.Common.{refl}
use Rattle.wc_laws_grammar.proofs.FoundTokens.{found_cut}
use Rattle.wc_examples_language.proofs.cuts.ampersand_n.Goals as goal

pub returns-clause-operator : goal.returns-clause-operator
returns-clause-operator c = found_cut _ _ refl

pub returns-clause-small_letter : goal.returns-clause-small_letter
returns-clause-small_letter c = found_cut _ _ refl

pub returns-clause-identifier : goal.returns-clause-identifier
returns-clause-identifier c = found_cut _ _ refl

pub returns-clause-parted : goal.returns-clause-parted
returns-clause-parted c = found_cut _ _ refl
