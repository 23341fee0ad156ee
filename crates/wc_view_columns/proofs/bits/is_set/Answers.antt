use Rattle.std.proofs.Common.{ap, sym}
use Rattle.std.specs.Prelude.{◌==◌}
use Rattle.wc_view_columns.proofs.Together.{high_bit}
use Rattle.wc_view_columns.proofs.bits.is_set.Goals as goal

pub returns-in-None : goal.returns-in-None
returns-in-None c = ap (λ n. n == 1) (sym (high_bit c.args.value c.args.number c.ranges.value.fits c.in-None.ensures))
