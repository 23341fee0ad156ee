use Rattle.wc_laws_language.proofs.Jumping.{seeking}
use Rattle.wc_laws_language.proofs.jump_goes_on_ahead.Goals as goal

pub returns : goal.returns
returns c = seeking
