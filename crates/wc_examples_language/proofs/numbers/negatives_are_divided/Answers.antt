-- The numbers wrap by computation.
use Rattle.std.proofs.Common.{refl}
use Rattle.std.specs.Int.{int_wrap}
use Rattle.wc_examples_language.proofs.numbers.negatives_are_divided.Goals as goal

pub returns-clause-least_by_minus_one : goal.returns-clause-least_by_minus_one
unfolding int_wrap
returns-clause-least_by_minus_one c = refl
