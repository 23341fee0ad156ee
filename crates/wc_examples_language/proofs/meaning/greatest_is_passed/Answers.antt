-- The numbers wrap by computation.
use Rattle.std.proofs.Common.{refl}
use Rattle.std.specs.Int.{int_wrap}
use Rattle.wc_examples_language.proofs.meaning.greatest_is_passed.Goals as goal

pub returns : goal.returns
unfolding int_wrap
returns c = refl
