use Rattle.std.proofs.Common.{◌≡◌, subst, arith}
use Rattle.wc_names.specs.Carrying.{AreFinished}
use Rattle.wc_names.proofs.Spread.{none_finished, none_first}
use Rattle.wc_names.proofs.finished.finish_before.Goals as goal

pub loop-number-init : goal.loop-number-init
loop-number-init c = record {
  finished = none_finished c.args.units.now c.new-finished.result.items c.new-finished.ensures.items;
  first = none_first c.new-finished.result.items c.new-finished.ensures.items;
}

pub loop-number-preserved : goal.loop-number-preserved
loop-number-preserved c = record {
  finished = c.in_ok-finish.ensures.finished c.loop-number.invariant.finished;
  first = c.in_ok-finish.ensures.first c.loop-number.invariant.first;
}

pub returns-clause-finished : goal.returns-clause-finished
returns-clause-finished c =
    let most = c.loop-number.auto.number-end in
    let least = c.loop-number-test.false in
    let end : c.loop-number.number ≡ c.args.unit = omega (arith, most, least) in
    subst (λ n. AreFinished c.args.units.now n c.loop-number.finished.items) end c.loop-number.invariant.finished
