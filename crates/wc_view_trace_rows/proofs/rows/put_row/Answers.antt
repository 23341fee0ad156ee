use Rattle.wc_model.proofs.Common.{◌≡◌, ◌∙◌, ◌++◌, arith, length, rules, on_ok_weaker}
use Rattle.wc_view_trace_rows.proofs.Joins.{row_put}
use Rattle.wc_view_trace_rows.specs.{prefix, result_column, written_column, line_of, number_shown, result_cell, written_cell}
use Rattle.wc_view_trace_rows.proofs.rows.put_row.Goals as goal

pub returns-clause-puts : goal.returns-clause-puts
returns-clause-puts c =
    let item = c.args.item.now in
    let start : c.len-start.result ≡ length c.args.text.now.items = omega (arith, c.args.text.now.ok.0) in
    let number : c.then_some-number.result ≡ number_shown item.seen.line item.seen.source = search (rules) in
    on_ok_weaker c.put_bytes.result
    (λ put. put
    ∙ row_put c.args.text.now.items (prefix (number_shown item.seen.line item.seen.source) item.seen.depth (line_of c.args.legend.now item.seen.source)) c.put_place.new.text.items c.put_result.new.text.items c.put_if_written.new.text.items (result_cell item) (written_cell c.args.legend.now item)
    result_column written_column c.len-start.result start (c.in_ok-put_place.ensures.0 ∙ (λ i. c.args.text.now.items ++ prefix (number i) item.seen.depth (c.line.ensures i))) c.in_ok-put_result.ensures.puts c.in_ok-put_if_written.ensures.puts)
    c.put_bytes.ensures.bytes
