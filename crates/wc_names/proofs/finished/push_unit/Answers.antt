use Rattle.wc_model.proofs.Common.{◌≡◌, [], drop, refl, subst, drop_all}
use Rattle.wc_names.specs.Carrying.{AreFinished, contents_of}
use Rattle.wc_names.proofs.Frames.{own_places}
use Rattle.wc_names.proofs.Spread.{SpreadsOn, spreads_at, spreads_end}
use Rattle.wc_names.proofs.finished.push_unit.Goals as goal

pub loop-row-preserved : goal.loop-row-preserved
loop-row-preserved c = record {
  spread = λ before u h e done.
      let there = subst (λ n. AreFinished c.args.units.now n c.args.finished.now) e done in
      spreads_at before u c.args.frame.now c.loop-row.frame c.push_row.new.frame c.deref-row-items.result.now c.loop-row.row-index _ c.loop-row-test.true (c.loop-row.invariant.spread before u h e done) _ refl
      (λ v initial typed. (contents_of (own_places before v), refl, c.in_ok-push_row.ensures.grown c.args.units.now before u v h there initial typed));
  first = λ each held. c.in_ok-push_row.ensures.first each (c.loop-row.invariant.first each held);
}

pub returns-clause-grown : goal.returns-clause-grown
returns-clause-grown c = λ before u h e done.
    let items = c.deref-row-items.result.now in
    let end : drop c.loop-row.row-index items ≡ [] = drop_all c.loop-row.row-index items c.loop-row-test.false in
    spreads_end before u c.args.frame.now c.loop-row.frame (subst (λ xs. SpreadsOn before u c.args.frame.now c.loop-row.frame xs) end (c.loop-row.invariant.spread before u h e done))
