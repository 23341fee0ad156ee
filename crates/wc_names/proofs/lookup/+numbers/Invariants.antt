use Rattle.std.proofs.Common.{◌+◌, ◌*◌, length}
use Rattle.wc_names.proofs.lookup.+numbers.Given as goal

abbrev pub decreases-number : goal.decreases-number
decreases-number l = 2 * length l.names.now

abbrev pub decreases-number_after : goal.decreases-number_after
decreases-number_after l = 2 * length l.rest.now + 1
