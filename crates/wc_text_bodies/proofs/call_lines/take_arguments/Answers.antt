use Rattle.std.proofs.Common.{ap, arith, length, length-drop}
use Rattle.wc_text_bodies.proofs.CallLists.{arguments_then}
use Rattle.wc_text_lines.specs.LineViews.{listed_view}
use Rattle.wc_text_bodies.proofs.call_lines.take_arguments.Goals as goal

pub returns-then-next-place-clause-goes_on : goal.returns-then-next-place-clause-goes_on
returns-then-next-place-clause-goes_on c =
    arguments_then (listed_view c.args.call.now) (listed_view c.loop-index.call) (listed_view c.take_argument.new.call) c.args.tokens.now _ c.loop-index.place c.in_ok-next.field-0
    c.split_at.ensures.back c.loop-index.invariant.goes_on c.in_ok-next.ensures.goes_on

pub loop-index-preserved : goal.loop-index-preserved
loop-index-preserved c = record {
  goes_on =
      arguments_then (listed_view c.args.call.now) (listed_view c.loop-index.call) (listed_view c.take_argument.new.call) c.args.tokens.now _ c.loop-index.place c.in_ok-next.field-0
      c.split_at.ensures.back c.loop-index.invariant.goes_on c.in_ok-next.ensures.goes_on;
  within = omega (arith, c.in_ok-next.ensures.within, ap length c.split_at.ensures.back, length-drop c.loop-index.place c.args.tokens.now, c.loop-index.invariant.within);
}
