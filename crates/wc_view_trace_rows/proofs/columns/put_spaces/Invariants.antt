use Rattle.std.proofs.Common.{◌≡◌, ◌++◌}
use Rattle.wc_view_trace_rows.specs.Columns.{spaces}
use Rattle.wc_view_trace_rows.proofs.columns.put_spaces.Given as goal

-- the spaces so far are put
abbrev pub invariant-loop-space : goal.invariant-loop-space
invariant-loop-space l = l.text.items ≡ l.initial.text.items ++ spaces l._space
