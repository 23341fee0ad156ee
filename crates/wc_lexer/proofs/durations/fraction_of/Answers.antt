use Rattle.wc_lexer.proofs.PartSums.{no_fraction}
use Rattle.wc_lexer.proofs.durations.fraction_of.Goals as goal

pub returns-in-None : goal.returns-in-None
returns-in-None c = no_fraction c.args.number.now c.in-None.ensures
