use Rattle.std.proofs.Common.{◌≡◌, ◌++◌, take, map}
use Rattle.wc_cut.specs.Cuts.{lines_of}
use Rattle.wc_model.specs.Run.Rows.{Counts}
use Rattle.wc_cut.proofs.rows.put_samples.Given as goal

-- the rows of the samples so far follow the text
abbrev pub invariant-loop-sample : goal.invariant-loop-sample
invariant-loop-sample l = l.text.items ≡ l.fn.text.items ++ lines_of l.fn.ms (map Counts (take l.sample-index l.fn.samples))
