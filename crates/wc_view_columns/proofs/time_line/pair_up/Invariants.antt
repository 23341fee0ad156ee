use Rattle.std.proofs.Common.{◌≡◌, ℕ, ◌*◌, ◌<◌, ◌≤◌, length, get_or, vec_capacity}
use Rattle.wc_view_columns.specs.Rows.{IsPairOf}
use Rattle.wc_view_columns.specs.declared.line.Column.{Column}
use Rattle.wc_view_columns.proofs.time_line.pair_up.Given as goal

-- the columns before the index are pairs, and the others are as they were
abbrev pub invariant-loop-index : goal.invariant-loop-index
invariant-loop-index l = record {
  count : length l.columns.items ≡ length l.initial.columns.items;
  capacity : vec_capacity l.columns ≡ vec_capacity l.initial.columns;
  done : (i : ℕ) (other : Column) → i < l.index → IsPairOf l.initial.columns.items (2 * i) (get_or l.columns.items i other);
  rest : (i : ℕ) (other : Column) → l.index ≤ i → get_or l.columns.items i other ≡ get_or l.initial.columns.items i other;
}
