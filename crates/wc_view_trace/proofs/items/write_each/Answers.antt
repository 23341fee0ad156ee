use Rattle.std.proofs.Common.{◌∙◌, refl}
use Rattle.wc_view_trace_rows.proofs.RowsPut.{all_items, none_yet, one_more_item}
use Rattle.wc_view_trace.specs.Items.{item_tokens}
use Rattle.wc_view_trace.proofs.items.write_each.Goals as goal

pub loop-index-init : goal.loop-index-init
loop-index-init c = (
  none_yet (item_tokens c.args.legend.now) c.args.legend.now c.args.machine.now c.args.lines.now c.in-Ok.items c.args.writer.now.tokens
      c.in-Ok.ensures.levels c.in-Ok.ensures.calls,
  refl,
)

pub loop-index-preserved : goal.loop-index-preserved
loop-index-preserved c = (
  one_more_item (item_tokens c.args.legend.now) c.args.legend.now c.args.machine.now c.args.lines.now c.loop-index.index c.loop-index.items c.next.new.self
      c.args.writer.now.tokens c.loop-index.writer.tokens c.write_item.new.writer.tokens _ c.in-Ok-next.item c.loop-index-test.true
      c.in-Ok-next.ensures.levels c.next.ensures.calls c.in_ok-write_item.ensures.0 c.in-Ok-next.ensures.item c.loop-index.invariant.0,
  c.in_ok-write_item.ensures.1 ∙ c.loop-index.invariant.1,
)

pub returns-clause-tokens : goal.returns-clause-tokens
returns-clause-tokens c =
    all_items (item_tokens c.args.legend.now) c.args.legend.now c.args.machine.now c.args.lines.now c.loop-index.index c.loop-index.items
    c.args.writer.now.tokens c.loop-index.writer.tokens c.loop-index-test.false c.loop-index.invariant.0
