use Rattle.wc_diag_mistakes.proofs.unreached.keyword_of.Goals as goal
use Rattle.wc_diag_mistakes.specs.Unreached.{keyword_of}

pub returns : goal.returns
unfolding keyword_of
returns c = c.keyword_named.ensures
