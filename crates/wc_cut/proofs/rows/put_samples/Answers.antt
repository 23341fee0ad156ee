use Rattle.std.proofs.Common.{◌≡◌, ◌∙◌, ◌++◌, ap, rules, to_z, of_z, w32, get_or}
use Rattle.std.specs.Prelude.{pos}
use Rattle.wc_cut.proofs.RowsSoFar.{one_sample_more}
use Rattle.wc_cut.specs.Cuts.{line_of}
use Rattle.wc_model.specs.Run.Rows.{Counts}
use Rattle.wc_cut.proofs.rows.put_samples.Goals as goal

pub loop-sample-preserved : goal.loop-sample-preserved
loop-sample-preserved c =
    let raw : to_z w32 (of_z w32 (get_or c.args.samples.now c.loop-sample.sample-index (pos 0))) ≡ get_or c.args.samples.now c.loop-sample.sample-index (pos 0) =
    search (rules) in
    one_sample_more c.args.text.now.items c.loop-sample.text.items c.put_row.new.text.items c.args.ms c.args.samples.now c.loop-sample.sample-index (pos 0)
    c.loop-sample-test.true c.loop-sample.invariant (c.in_ok-put_row.ensures.text ∙ ap (λ x. c.loop-sample.text.items ++ line_of c.args.ms (Counts x)) raw)
