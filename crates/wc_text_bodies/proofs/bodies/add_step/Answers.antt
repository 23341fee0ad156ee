use Rattle.std.proofs.Common.{[], option_map, refl, arith}
use Rattle.wc_model.specs.Definitions.{lines_before, End, Plain, lines_view, word_view}
use Rattle.wc_text_bodies.proofs.Openings.{counted_more}
use Rattle.wc_text_bodies.proofs.LineLists.{lines_view-push, line_count-and, seen-push}
use Rattle.wc_text_lines.specs.LineViews.{step_view}
use Rattle.wc_text_bodies.specs.Views.{position_view}
use Rattle.wc_text_bodies.proofs.bodies.add_step.Goals as goal

pub returns-clause-following : goal.returns-clause-following
returns-clause-following c = λ units. rw (lines_view-push c.args.body.now.done.items c.push.new.self.items c.step_line.result c.in_ok-push.ensures.items, c.step_line.ensures End) refl

pub returns-clause-counted : goal.returns-clause-counted
returns-clause-counted c =
    let more = counted_more (lines_before (position_view [] c.args.body.now)) c.args.body.now.count c.one_more-body.result c.requires.count c.one_more-body.ensures in record {
      count = rw (lines_view-push c.args.body.now.done.items c.push.new.self.items c.step_line.result c.in_ok-push.ensures.items, c.step_line.ensures End, line_count-and (lines_view c.args.body.now.done.items) (Plain (option_map word_view c.args.started.label) c.args.started.line (step_view c.args.step) End)) (omega (arith, more));
      seen = seen-push c.args.body.now.done.items c.push.new.self.items c.step_line.result c.in_ok-push.ensures.items (rw (c.step_line.ensures End) refl);
    }
