use Rattle.std.proofs.Common.{◌≡◌, ◌++◌, drop}
use Rattle.wc_view_trace_rows.specs.Columns.{shown_bytes, single_spaces}
use Rattle.wc_view_trace_rows.proofs.shown.put_shown.Given as goal

-- with the bytes that are left the text is the whole one
abbrev pub invariant-loop-index : goal.invariant-loop-index
invariant-loop-index l =
    l.text.items ++ single_spaces l.before (shown_bytes l.is_utf8 l.hidden (drop l.index l.bytes)) ≡ l.initial.text.items ++ single_spaces 32 (shown_bytes l.is_utf8 0 l.bytes)
