use Rattle.wc_view_columns.proofs.Together.{both_bits}
use Rattle.wc_view_columns.proofs.bits.Bits.merge.Goals as goal
use Rattle.std.proofs.Common.{refl}

pub returns : goal.returns
returns c values others first second = both_bits values others c.args.self c.args.later _ first second refl refl refl
