use Rattle.wc_model.proofs.Common.{◌≡◌, List, ◌++◌, ap, ◌∙◌, append_assoc, on_ok_weaker}
use Rattle.wc_model.specs.Definitions.{Variable, variables_of, lines_view, unit_view}
use Rattle.wc_model.specs.declared.source.UnitKind.{UnitKind}
use Rattle.wc_diag_warnings.specs.{BodyEvent, events_of, events_view, warnings_view, used_in, WarningAt, body_warnings, declared_warnings}
use Rattle.wc_diag_warnings.proofs.diagnostic.warn_unit.Goals as goal

-- what is declared is looked at first, and then the body
both : (kind : UnitKind) (variables : List Variable) (all first then : List BodyEvent) (old between new : List WarningAt) → first ≡ all → then ≡ all →
    between ≡ old ++ declared_warnings kind (used_in first) variables → new ≡ between ++ body_warnings kind then →
    new ≡ old ++ (declared_warnings kind (used_in all) variables ++ body_warnings kind all)
both kind variables all first then old between new f t b n =
    cc (append_assoc old (declared_warnings kind (used_in all) variables) (body_warnings kind all))

pub returns : goal.returns
returns c = record {
  added =
      let unit = c.args.unit.now in
      let all = events_of (unit_view unit).body in
      let found : events_view c.in_ok-events.events.items ≡ all = c.in_ok-events.ensures.found ∙ ap (λ lines. events_of (lines_view lines)) c.deref.ensures.value in
      on_ok_weaker c.warn_body.result
      (λ added. both unit.kind (variables_of (unit_view unit)) all (events_view c.deref-2.result.now) (events_view c.deref-3.result.now) (warnings_view c.args.warnings.now.items)
      (warnings_view c.warn_names.new.warnings.items) (warnings_view c.warn_body.new.warnings.items) (ap events_view c.deref-2.ensures.value ∙ found) (ap events_view c.deref-3.ensures.value ∙ found)
      c.in_ok-warn_names.ensures.added added)
      c.warn_body.ensures.added;
}
