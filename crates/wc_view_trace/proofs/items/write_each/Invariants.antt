use Rattle.std.proofs.Common.{◌≡◌}
use Rattle.wc_view_trace.specs.Items.{item_tokens}
use Rattle.wc_view_trace_rows.proofs.RowsPut.{SoFar}
use Rattle.wc_view_trace.proofs.items.write_each.Given as goal

-- the objects of the items so far are written
abbrev pub invariant-loop-index : goal.invariant-loop-index
invariant-loop-index l =
    SoFar (item_tokens l.legend) l.legend l.machine l.lines l.index l.items l.initial.writer.tokens l.writer.tokens
    × (l.writer.before ≡ l.initial.writer.before)
