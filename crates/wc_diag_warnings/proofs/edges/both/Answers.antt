use Rattle.std.proofs.Common.{refl}
use Rattle.wc_diag_warnings.proofs.Again.{bit_of_both}
use Rattle.wc_diag_warnings.specs.Paths.{Start, Store}
use Rattle.wc_diag_warnings.proofs.edges.both.Goals as goal

pub returns : goal.returns
returns c Start = refl
returns c (Store output) = bit_of_both c.args.these.stored c.args.those.stored output
