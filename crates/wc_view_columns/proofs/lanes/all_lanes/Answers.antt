use Rattle.std.proofs.Common.{refl}
use Rattle.wc_view_columns.specs.Columns.{all_lanes}
use Rattle.wc_view_columns.proofs.lanes.all_lanes.Goals as goal

pub returns : goal.returns
unfolding all_lanes
returns c = refl
