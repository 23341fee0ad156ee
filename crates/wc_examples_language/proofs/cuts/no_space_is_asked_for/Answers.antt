use Rattle.std.proofs.Common.{refl}
use Rattle.wc_laws_grammar.proofs.FoundTokens.{found_cut}
use Rattle.wc_examples_language.proofs.cuts.no_space_is_asked_for.Goals as goal

pub returns-clause-number : goal.returns-clause-number
returns-clause-number c = found_cut _ _ refl

pub returns-clause-address : goal.returns-clause-address
returns-clause-address c = found_cut _ _ refl

pub returns-clause-marks : goal.returns-clause-marks
returns-clause-marks c = found_cut _ _ refl

pub returns-clause-label : goal.returns-clause-label
returns-clause-label c = found_cut _ _ refl
