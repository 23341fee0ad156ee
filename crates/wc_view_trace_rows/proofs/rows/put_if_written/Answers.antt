use Rattle.wc_model.proofs.Common.{◌∙◌, Some, None, ap, cond, sym, on_ok_weaker}
use Rattle.wc_view_trace_rows.proofs.Joins.{one_cell}
use Rattle.wc_view_trace_rows.specs.{written_column, written_cell, written_text}
use Rattle.wc_view_trace_rows.proofs.rows.put_if_written.Goals as goal

pub returns-then-has_written-clause-puts : goal.returns-then-has_written-clause-puts
returns-then-has_written-clause-puts c =
    let legend = c.args.legend.now in
    let item = c.args.item.now in
    let text = written_text legend item item.seen.written in
    on_ok_weaker c.put_written.result
    (λ put. one_cell written_column c.args.start c.args.text.now.items c.put_gap.new.text.items c.put_written.new.text.items text (written_cell legend item)
    (ap (λ b. cond b (Some text) None) (sym c.has_written.ensures ∙ c.if-has_written.true)) c.in_ok-put_gap.ensures.0 put)
    c.put_written.ensures.0
