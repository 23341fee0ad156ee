-- The numbers wrap by computation.
use Rattle.std.proofs.Common.{refl}
use Rattle.std.specs.Int.{int_wrap}
use Rattle.wc_examples_language.proofs.numbers.numbers_wrap.Goals as goal

pub returns-clause-past_the_greatest : goal.returns-clause-past_the_greatest
unfolding int_wrap
returns-clause-past_the_greatest c = refl

pub returns-clause-below_the_least : goal.returns-clause-below_the_least
unfolding int_wrap
returns-clause-below_the_least c = refl

pub returns-clause-a_whole_turn : goal.returns-clause-a_whole_turn
unfolding int_wrap
returns-clause-a_whole_turn c = refl
