use Rattle.std.proofs.Common.{length}
use Rattle.wc_lexer.proofs.durations.+later_billionths.Given as goal

abbrev pub decreases-later_billionths : goal.decreases-later_billionths
decreases-later_billionths l = length l.text.now
