use Rattle.wc_model.proofs.Common.{◌≡◌, ℕ, arith, of_z, subst, to_z, w32, ints}
use Rattle.wc_model.specs.Run.Rows.{Counts}
use Rattle.wc_run.proofs.ScaleRows.{takes_sample}
use Rattle.wc_run.specs.Doing.{TakesRow}
use Rattle.wc_run.proofs.log_scale.LogScale.take_sample.Goals as goal

pub returns-clause-takes : goal.returns-clause-takes
returns-clause-takes g c =
    let raw : to_z w32 (of_z w32 c.args.counts) ≡ c.args.counts = omega (arith, ints, c.requires.0, c.requires.1) in
    subst (λ counts. (ms : ℕ) → TakesRow c.args.self.now (record c.args.self.now { opened = c.sample.new.self }) ms (Counts counts)) raw
    (takes_sample c.args.self.now c.sample.new.self _ c.sample.ensures.goes)
