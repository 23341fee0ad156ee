use Rattle.std.proofs.Common.{◌≡◌, filter, take}
use Rattle.wc_view_columns.specs.Columns.{is_shown}
use Rattle.wc_view_columns.proofs.lanes.lanes_of.Given as goal

-- those of the lanes so far that are shown
abbrev pub invariant-loop-lane : goal.invariant-loop-lane
invariant-loop-lane l = l.shown.items ≡ filter (is_shown l.all) (take l.lane-index l.lane-items)
