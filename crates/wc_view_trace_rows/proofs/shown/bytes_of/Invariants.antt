use Rattle.std.proofs.Common.{◌≡◌, ◌++◌, drop, take}
use Rattle.wc_view_trace_rows.specs.Columns.{first_columns}
use Rattle.wc_view_trace_rows.proofs.shown.bytes_of.Given as goal

-- the bytes so far take the columns that are not left
abbrev pub invariant-loop-index : goal.invariant-loop-index
invariant-loop-index l = take l.index l.text ++ first_columns l.left (drop l.index l.text) ≡ first_columns l.columns l.text
