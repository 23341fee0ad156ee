use Rattle.wc_model.proofs.Common.{subst, arith, take_all}
use Rattle.wc_view_columns.proofs.Totals.{both_together}
use Rattle.wc_view_columns.proofs.Wholes.{as_many, whole_on}
use Rattle.wc_view_columns.specs.Columns.{HasHappened, HasHeld, IsOfAll, IsWholeOf}
use Rattle.wc_view_columns.proofs.lanes.whole.Goals as goal

pub loop-column-preserved : goal.loop-column-preserved
loop-column-preserved c = record {
  held = λ held are.
      whole_on HasHeld held c.args.columns.now c.loop-column.column-index _ are c.loop-column-test.true c.loop-column.all c.with_column.result
      (c.loop-column.invariant.held held are) c.with_column.ensures.first c.with_column.ensures.more;
  events = λ events are.
      whole_on HasHappened events c.args.columns.now c.loop-column.column-index _ are c.loop-column-test.true c.loop-column.all c.with_column.result
      (c.loop-column.invariant.events events are) c.with_column.ensures.first
      (λ before earlier later is first second. both_together earlier later before.events _ _ first second (c.with_column.ensures.events before is));
}

pub returns-clause-held : goal.returns-clause-held
returns-clause-held c held are =
    subst (IsWholeOf c.loop-column.all) (take_all c.loop-column.column-index held (omega (arith, c.loop-column-test.false, as_many HasHeld held c.args.columns.now are)))
    (c.loop-column.invariant.held held are)

pub returns-clause-events : goal.returns-clause-events
returns-clause-events c events are =
    subst (IsOfAll HasHappened c.loop-column.all)
    (take_all c.loop-column.column-index events (omega (arith, c.loop-column-test.false, as_many HasHappened events c.args.columns.now are)))
    (c.loop-column.invariant.events events are)
