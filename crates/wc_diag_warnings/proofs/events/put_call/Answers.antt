use Rattle.wc_model.proofs.Common.{◌∷◌, ◌++◌, [], append_assoc, map, sym, ap, ◌∙◌, flat_map}
use Rattle.std.proofs.lemmas.List.{append-nil, drop_all}
use Rattle.wc_model.specs.Definitions.{name_of, assignment_view}
use Rattle.wc_diag_warnings.specs.{Begins, Calls, argument_events, at, events_view}
use Rattle.wc_diag_warnings.proofs.events.put_call.Goals as goal

pub returns : goal.returns
returns c = record {
  added =
      let line = c.args.line in
      let name = name_of c.args.instance.now in
      let found = events_view c.loop-argument.events.items in
      let all = flat_map (argument_events line name) (map assignment_view c.args.arguments.now) in
      sym (append-nil found)
      ∙ sym (ap (λ left. found ++ flat_map (argument_events line name) (map assignment_view left))
      (drop_all c.loop-argument.argument-index c.args.arguments.now c.loop-argument-test.false))
      ∙ c.loop-argument.invariant
      ∙ ap (λ events. events ++ all) c.in_ok-put_step.ensures.added
      ∙ append_assoc (events_view c.args.events.now.items) (at line Begins ∷ at line (Calls name) ∷ []) all;
}
