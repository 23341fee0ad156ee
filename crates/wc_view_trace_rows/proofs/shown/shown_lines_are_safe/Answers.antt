use Rattle.wc_view_trace_rows.proofs.SafeLines.{lines_are_safe}
use Rattle.wc_view_trace_rows.proofs.shown.shown_lines_are_safe.Goals as goal

pub returns : goal.returns
returns c = lines_are_safe
