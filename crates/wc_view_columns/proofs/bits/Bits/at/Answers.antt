use Rattle.wc_view_columns.proofs.Together.{one_bits}
use Rattle.wc_view_columns.proofs.bits.Bits.at.Goals as goal
use Rattle.std.proofs.Common.{refl}

pub returns : goal.returns
returns c = one_bits c.args.value _ refl refl refl
