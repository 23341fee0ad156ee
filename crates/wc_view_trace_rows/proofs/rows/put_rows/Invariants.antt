use Rattle.wc_view_trace_rows.proofs.RowsPut.{SoFar}
use Rattle.wc_view_trace_rows.specs.Rows.{row_of}
use Rattle.wc_view_trace_rows.proofs.rows.put_rows.Given as goal

-- the rows of the items so far are put
abbrev pub invariant-loop-index : goal.invariant-loop-index
invariant-loop-index l = SoFar (row_of l.legend) l.legend l.machine l.lines l.index l.items l.initial.text.items l.text.items
