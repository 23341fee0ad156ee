use Rattle.std.proofs.Common.{◌≡◌, ◌||◌, ◌++◌, drop, reverse, take}
use Rattle.std.specs.List.{flat_map, list_any}
use Rattle.wc_model.specs.Language.Checks.{positions_after}
use Rattle.wc_diag_warnings.specs.{reads_valid, reads_weight, IsFollowed, events_view, warnings_view, body_warnings, event_warnings, is_above_reached, outputs_in}
use Rattle.wc_diag_warnings.proofs.body.warn_body.Given as goal

-- the events before are looked at: with those of the others these are all warnings
abbrev pub invariant-loop-event : goal.invariant-loop-event
invariant-loop-event l =
    let events = events_view l.events in
    let before = reverse (events_view (take l.event-index l.events)) in
    record {
      asked : l.asked ≡ (list_any reads_valid events || list_any reads_weight before);
      above : l.above ≡ is_above_reached before;
      followed : IsFollowed before l.ahead;
      found : warnings_view l.warnings.items ++ flat_map (event_warnings (outputs_in l.kind) events) (positions_after before (events_view (drop l.event-index l.events)))
          ≡ warnings_view l.initial.warnings.items ++ body_warnings l.kind events;
    }
