use Rattle.std.proofs.Common.{◌≡◌, ◌+◌, ◌∷◌, ◌++◌, drop, get_or, reverse, refl, sym, ap, ◌∙◌, subst, take}
use Rattle.wc_model.proofs.Common.{or-false, drop_more, list_any}
use Rattle.wc_diag_warnings.proofs.EventSteps.{above_step, asked_in, asked_step, found_step, number_is, one_more_before}
use Rattle.wc_diag_warnings.specs.{reads_valid, IsFollowed, Start, event_view, events_view, warnings_view, warning_at, outputs_in}
use Rattle.wc_diag_warnings.specs.declared.events.Action.TheVariants.{Begin}
use Rattle.wc_diag_warnings.specs.declared.events.Event.{Event}
use Rattle.wc_diag_warnings.proofs.body.warn_body.Goals as goal

abbrev no_event : Event
no_event = record { line = 0; action = Begin }

pub loop-event-init : goal.loop-event-init
loop-event-init c =
    let events = events_view c.args.events.now in
    record {
      asked = c.is_asked-asked.ensures ∙ asked_in c.args.events.now ∙ sym (or-false (list_any reads_valid events));
      above = refl;
      followed = c.at_start-ahead.ensures;
      found = refl;
    }

pub loop-event-preserved : goal.loop-event-preserved
loop-event-preserved c =
    let items = c.args.events.now in
    let i = c.loop-event.event-index in
    let numbers = outputs_in c.args.kind in
    let events = events_view items in
    let e = event_view (get_or items i no_event) in
    let before = reverse (events_view (take i items)) in
    let more = reverse (events_view (take (i + 1) items)) in
    let rest = events_view (drop (i + 1) items) in
    let so_far = c.loop-event.invariant in
    let from = c.paths_to-paths.ensures before so_far.followed in
    let more_is : more ≡ e ∷ before = one_more_before items i no_event c.loop-event-test.true in
    let left_is : events_view (drop i items) ≡ e ∷ rest = ap events_view (drop_more items i no_event c.loop-event-test.true) in
    record {
      asked = asked_step events before more e c.loop-event.asked c.reads_weight.result _ more_is so_far.asked c.reads_weight.ensures refl;
      above = above_step before more e c.begins.result c.paths_to-paths.result.started c.loop-event.above c.is_above-above.result more_is c.begins.ensures (from Start) so_far.above c.is_above-above.ensures;
      followed = subst (λ es. IsFollowed es c.follow.new.ahead) (sym more_is) (c.in_ok-follow.ensures.followed before so_far.followed from);
      found = found_step numbers events before more (events_view (drop i items)) rest e c.number_of.result (warnings_view c.loop-event.warnings.items) (warnings_view c.warn.new.warnings.items) _
          more_is left_is
          (c.in_ok-warn.ensures.added ∙ ap (λ name. warnings_view c.loop-event.warnings.items ++ warning_at c.number_of.result e.line name) c.address_of.ensures)
          (number_is numbers events before e c.begins.result c.loop-event.above c.paths_to-paths.result.started c.is_again.result c.reads_weight.result c.loop-event.asked c.number_of.result
          c.number_of.ensures c.begins.ensures so_far.above (from Start) (c.is_again.ensures before from) c.reads_weight.ensures so_far.asked)
          so_far.found;
    }
