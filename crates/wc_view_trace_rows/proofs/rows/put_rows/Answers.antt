use Rattle.wc_view_trace_rows.proofs.RowsPut.{all_items, none_yet, one_more_item}
use Rattle.wc_view_trace_rows.specs.Rows.{row_of}
use Rattle.wc_view_trace_rows.proofs.rows.put_rows.Goals as goal

pub loop-index-init : goal.loop-index-init
loop-index-init c =
    none_yet (row_of c.args.legend.now) c.args.legend.now c.args.machine.now c.args.lines.now c.in_ok-items.items c.args.text.now.items
    c.in_ok-items.ensures.levels c.in_ok-items.ensures.calls

pub loop-index-preserved : goal.loop-index-preserved
loop-index-preserved c =
    one_more_item (row_of c.args.legend.now) c.args.legend.now c.args.machine.now c.args.lines.now c.loop-index.index c.loop-index.items c.next.new.self
    c.args.text.now.items c.loop-index.text.items c.put_row.new.text.items _ c.in_ok-item.item c.loop-index-test.true
    c.in_ok-item.ensures.levels c.next.ensures.calls c.in_ok-put_row.ensures.puts c.in_ok-item.ensures.item c.loop-index.invariant

pub returns-clause-puts : goal.returns-clause-puts
returns-clause-puts c =
    all_items (row_of c.args.legend.now) c.args.legend.now c.args.machine.now c.args.lines.now c.loop-index.index c.loop-index.items
    c.args.text.now.items c.loop-index.text.items c.loop-index-test.false c.loop-index.invariant
