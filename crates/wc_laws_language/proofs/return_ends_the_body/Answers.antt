use Rattle.wc_laws_language.proofs.Jumping.{return_ends}
use Rattle.wc_laws_language.proofs.return_ends_the_body.Goals as goal

pub returns : goal.returns
returns c = return_ends
