use Rattle.std.proofs.Common.{[], refl, arith}
use Rattle.wc_model.specs.Text.Limits.{lines_before}
use Rattle.wc_text_bodies.proofs.Openings.{counted_more, opened-append}
use Rattle.wc_text_bodies.specs.Views.{position_view}
use Rattle.wc_text_bodies.proofs.bodies.add_opening.Goals as goal

pub returns-clause-following : goal.returns-clause-following
returns-clause-following c = λ units. rw (c.in_ok-push.ensures.items, opened-append, c.replace-before.ensures.after, c.new.ensures.items, c.replace-before.ensures.value) refl

pub returns-clause-counted : goal.returns-clause-counted
returns-clause-counted c =
    let more = counted_more (lines_before (position_view [] c.args.body.now)) c.args.body.now.count c.one_more-body.result c.requires.count c.one_more-body.ensures in record {
      count = rw (c.in_ok-push.ensures.items, opened-append, c.replace-before.ensures.after, c.new.ensures.items, c.replace-before.ensures.value) (omega (arith, more));
      seen = rw (c.replace-before.ensures.after, c.new.ensures.items) refl;
    }
