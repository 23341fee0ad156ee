use Rattle.std.proofs.Common.{◌≡◌, ◌++◌}
use Rattle.std.specs.Prelude.{replicate}
use Rattle.wc_cut.specs.Cuts.{lines_of}
use Rattle.wc_model.specs.Run.Rows.{Counts}
use Rattle.wc_cut.proofs.rows.put_load.Given as goal

-- as many rows follow the text
abbrev pub invariant-loop-turn : goal.invariant-loop-turn
invariant-loop-turn l = l.text.items ≡ l.fn.text.items ++ lines_of l.fn.ms (replicate l._turn (Counts l.fn.counts))
