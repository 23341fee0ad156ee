use Rattle.std.proofs.Common.{◌≡◌, ◌-◌, ◌≤◌, ◌++◌, length, max, replicate, vec_capacity}
use Rattle.wc_view_columns.specs.Rows.{holding}
use Rattle.wc_view_columns.proofs.time_line.fill.Given as goal

-- a column for each number so far
abbrev pub invariant-loop-number : goal.invariant-loop-number
invariant-loop-number l = record {
  columns : l.columns.items ≡ l.initial.columns.items ++ replicate (l._number - length l.initial.columns.items) (holding l.held);
  within : l._number ≤ max (length l.initial.columns.items) l.count;
  capacity : vec_capacity l.columns ≡ vec_capacity l.initial.columns;
}
