use Rattle.wc_model.proofs.Common.{◌≡◌, ◌||◌, drop, list_any}
use Rattle.wc_model.specs.Definitions.{is_among, Name}
use Rattle.wc_diag_warnings.specs.Seen.{does, events_view}
use Rattle.wc_diag_warnings.proofs.used.add_used.Given as goal

-- with the names of the events that are left these are all
abbrev pub invariant-loop-event : goal.invariant-loop-event
invariant-loop-event l = (name : Name) →
    (is_among l.names name || list_any (λ e. does l.wanted e.action name) (events_view (drop l.event-index l.events))) ≡ (is_among l.initial.names name || list_any (λ e. does l.wanted e.action name) (events_view l.events))
