use Rattle.std.proofs.Common.{refl, arith, sym}
use Rattle.wc_record.proofs.Cuts.{pass_one, passed_all, passed_to_cut}
use Rattle.wc_record.proofs.place.LogPlace.walk_on.Goals as goal

pub loop-index-init : goal.loop-index-init
loop-index-init c = λ rest. refl

pub loop-index-preserved : goal.loop-index-preserved
loop-index-preserved c =
    pass_one c.args.self.now c.args.bytes.now c.loop-index.index c.loop-index.self c.following.result (sym c.if-is_cut.ensures) c.loop-index-test.true c.following.ensures c.loop-index.invariant

pub returns-then-is_cut-clause-cuts : goal.returns-then-is_cut-clause-cuts
returns-then-is_cut-clause-cuts c = passed_to_cut c.args.self.now c.args.bytes.now c.loop-index.index c.loop-index.self (sym c.if-is_cut.ensures) c.loop-index.invariant

pub returns-clause-cuts : goal.returns-clause-cuts
returns-clause-cuts c = passed_all c.args.self.now c.args.bytes.now c.loop-index.index c.loop-index.self (omega (arith, c.loop-index-test.false, c.loop-index.auto.index-end)) c.loop-index.invariant
