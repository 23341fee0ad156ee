use Rattle.wc_model.proofs.Common.{◌≡◌, ◌++◌, map, drop, flat_map}
use Rattle.wc_model.specs.Definitions.{name_of, assignment_view}
use Rattle.wc_diag_warnings.specs.{argument_events, events_view}
use Rattle.wc_diag_warnings.proofs.events.put_call.Given as goal

-- with the items that are left it is the whole list
abbrev pub invariant-loop-argument : goal.invariant-loop-argument
invariant-loop-argument l =
    events_view l.events.items ++ flat_map (argument_events l.line (name_of l.instance)) (map assignment_view (drop l.argument-index l.arguments))
    ≡ events_view l.initial.events.items ++ flat_map (argument_events l.line (name_of l.instance)) (map assignment_view l.arguments)
