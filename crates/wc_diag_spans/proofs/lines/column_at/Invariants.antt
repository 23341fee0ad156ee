use Rattle.wc_diag_spans.proofs.Columns.{IsBack}
use Rattle.wc_diag_spans.proofs.lines.column_at.Given as goal

-- that number of bytes before the place were not an LF
abbrev pub invariant-loop-count : goal.invariant-loop-count
invariant-loop-count l = IsBack l.above l.count
