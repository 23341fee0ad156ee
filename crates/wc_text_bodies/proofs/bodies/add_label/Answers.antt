use Rattle.std.proofs.Common.{refl, arith}
use Rattle.wc_model.specs.Definitions.{End, Alone, lines_view, word_view}
use Rattle.wc_text_bodies.proofs.LineLists.{lines_view-push, line_count-and, seen-push}
use Rattle.wc_text_bodies.proofs.bodies.add_label.Goals as goal

pub returns-clause-following : goal.returns-clause-following
returns-clause-following c = λ units. rw (lines_view-push c.args.body.now.done.items c.push.new.self.items c.label_line.result c.in_ok-push.ensures.items, c.label_line.ensures End) refl

pub returns-clause-counted : goal.returns-clause-counted
returns-clause-counted c = record {
  count = rw (lines_view-push c.args.body.now.done.items c.push.new.self.items c.label_line.result c.in_ok-push.ensures.items, c.label_line.ensures End, line_count-and (lines_view c.args.body.now.done.items) (Alone (word_view c.args.label) End)) (omega (arith, c.requires.count));
  seen = seen-push c.args.body.now.done.items c.push.new.self.items c.label_line.result c.in_ok-push.ensures.items (rw (c.label_line.ensures End) refl);
}
