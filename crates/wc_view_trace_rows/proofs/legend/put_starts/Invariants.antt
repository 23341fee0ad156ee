use Rattle.std.proofs.Common.{◌≡◌, ◌++◌, drop}
use Rattle.wc_view_trace_rows.specs.Legends.{starts_from}
use Rattle.wc_view_trace_rows.proofs.legend.put_starts.Given as goal

-- with the starts in the bytes that are left they are all
abbrev pub invariant-loop-index : goal.invariant-loop-index
invariant-loop-index l = l.starts.items ++ starts_from l.index (drop l.index l.text) ≡ l.initial.starts.items ++ starts_from 0 l.text
