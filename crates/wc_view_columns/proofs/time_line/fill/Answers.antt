use Rattle.std.proofs.Common.{◌≡◌, ◌-◌, ◌≤◌, ◌++◌, [], ◌∷◌, length, replicate, arith, ap, ◌∙◌}
use Rattle.wc_view_columns.proofs.Rows.{filled_more}
use Rattle.wc_view_columns.specs.Rows.{holding}
use Rattle.wc_view_columns.proofs.time_line.fill.Goals as goal

pub loop-number-preserved : goal.loop-number-preserved
loop-number-preserved c =
    let old = c.args.columns.now.items in
    let from : length old ≤ c.loop-number._number = omega (arith, c.loop-number.auto._number, c.len-number.ensures) in
    record {
      columns = c.push_reserved.ensures.items ∙ (λ i. c.loop-number.invariant.columns i ++ c.holding.ensures i ∷ []) ∙ filled_more old c.loop-number._number (holding c.args.held.now) from;
      within = omega (arith, c.loop-number-test.true);
      capacity = c.push_reserved.ensures.capacity ∙ c.loop-number.invariant.capacity;
    }

pub returns-clause-columns : goal.returns-clause-columns
returns-clause-columns c =
    let old = c.args.columns.now.items in
    let same : c.loop-number._number - length old ≡ c.args.count - length old =
    omega (arith, c.loop-number.auto._number, c.len-number.ensures, c.loop-number.invariant.within, c.loop-number-test.false) in
    c.loop-number.invariant.columns ∙ ap (λ n. old ++ replicate n (holding c.args.held.now)) same
