use Rattle.wc_controller.proofs.UnitReports.{Begins}
use Rattle.wc_controller.proofs.unit_lines.text_of_units.Given as goal
use Rattle.wc_model.specs.Language.Views.{text_view}

-- the lines of the units so far begin the report
abbrev pub invariant-loop-unit : goal.invariant-loop-unit
invariant-loop-unit l = Begins l.fn.paths (text_view l.loaded.source) l.unit l.report.items
