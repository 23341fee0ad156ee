use Rattle.wc_diag_spans.proofs.Columns.{back_begins}
use Rattle.wc_diag_spans.proofs.lines.column_at.Goals as goal

pub loop-count-init : goal.loop-count-init
loop-count-init c = back_begins c.prefix-above.result.now
