use Rattle.std.proofs.Common.{sym, ◌∙◌, subst}
use Rattle.wc_model.specs.Run.Rows.{Change}
use Rattle.wc_run.proofs.ProgramChanges.{runs_change, runs_past, stops_change, takes_change}
use Rattle.wc_run.proofs.ScaleRows.{passes_change}
use Rattle.wc_run.specs.Doing.{TakesRow}
use Rattle.wc_run.proofs.log_scale.LogScale.change_program.Goals as goal

pub returns-then-not-has_program-clause-takes : goal.returns-then-not-has_program-clause-takes
returns-then-not-has_program-clause-takes g c = λ ms. passes_change c.args.self.now ms (sym c.has_program.ensures ∙ c.if-not-has_program.true)

pub returns-then-not-has_program-clause-runs : goal.returns-then-not-has_program-clause-runs
returns-then-not-has_program-clause-runs g c = λ ms. runs_past c.args.self.now c.args.number ms (sym c.has_program.ensures ∙ c.if-not-has_program.true)

pub returns-in-Ok-clause-takes : goal.returns-in-Ok-clause-takes
returns-in-Ok-clause-takes g c = λ ms.
    subst (λ next. TakesRow c.args.self.now (record c.args.self.now { opened = c.change.new.self; next = next }) ms Change) (sym c.in-Some.ensures.after)
    (takes_change c.args.self.now c.change.new.self c.in-Some.next ms (sym c.has_program.ensures ∙ c.if-not-has_program.false) (sym c.in-Some.ensures.value) c.in-Ok.ensures.changed)

pub returns-in-Ok-clause-runs : goal.returns-in-Ok-clause-runs
returns-in-Ok-clause-runs g c = λ ms.
    runs_change c.args.self.now c.in-Some.next c.args.number ms (sym c.has_program.ensures ∙ c.if-not-has_program.false) (sym c.in-Some.ensures.value)

pub returns-in-None-clause-stops : goal.returns-in-None-clause-stops
returns-in-None-clause-stops g c = λ ms.
    stops_change c.args.self.now c.args.number ms (sym c.has_program.ensures ∙ c.if-not-has_program.false) (sym c.in-None.ensures.value)
