use Rattle.std.proofs.Common.{◌+◌, ◌++◌, List, ℕ, ap, sym, ◌∙◌, subst, arith}
use Rattle.wc_controller.proofs.UnitReports.{Begins, begins_on, begins_to_end}
use Rattle.wc_controller.proofs.unit_lines.text_of_units.Goals as goal
use Rattle.wc_model.specs.Language.Views.{text_view}

pub loop-unit-preserved : goal.loop-unit-preserved
loop-unit-preserved c =
    let text = text_view c.args.loaded.now.source in
    let report : List ℕ = c.loop-unit.report.items in
    subst (λ written. Begins c.args.paths text (c.loop-unit.unit + 1) written) (sym (c.in_ok-extend_from_slice.ensures.items ∙ ap (λ more. report ++ more) c.deref.ensures.value))
    (begins_on c.args.paths text c.loop-unit.unit report c.in_ok-lines.lines.items c.loop-unit.invariant c.in_ok-lines.ensures.lines)

pub returns-clause-report : goal.returns-clause-report
returns-clause-report c =
    begins_to_end c.args.paths (text_view c.args.loaded.now.source) c.loop-unit.unit c.loop-unit.report.items (omega (arith, c.loop-unit-test.false, c.units-unit-end.ensures)) c.loop-unit.invariant
