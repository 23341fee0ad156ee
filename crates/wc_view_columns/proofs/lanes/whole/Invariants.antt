use Rattle.std.proofs.Common.{List, take}
use Rattle.wc_view_columns.specs.Columns.{AreOf, HasHappened, HasHeld, IsOfAll, IsWholeOf}
use Rattle.wc_view_columns.specs.Held.{Held}
use Rattle.wc_view_columns.specs.declared.events.Events.{Events}
use Rattle.wc_view_columns.proofs.lanes.whole.Given as goal

-- the columns so far are one
abbrev pub invariant-loop-column : goal.invariant-loop-column
invariant-loop-column l = record {
  held : (held : List (List Held)) → AreOf HasHeld held l.fn.columns → IsWholeOf l.all (take l.column-index held);
  events : (events : List (List Events)) → AreOf HasHappened events l.fn.columns → IsOfAll HasHappened l.all (take l.column-index events);
}
