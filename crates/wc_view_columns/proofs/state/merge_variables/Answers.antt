use Rattle.std.proofs.Common.{zero, suc, arith}
use Rattle.wc_view_columns.proofs.state.merge_variables.Goals as goal

pub returns : goal.returns
returns c numbers others first second zero within = c.join.ensures.both (numbers 0) (others 0) (first 0 within) (second 0 within)
returns c numbers others first second (suc zero) within = c.join-2.ensures.both (numbers 1) (others 1) (first 1 within) (second 1 within)
returns c numbers others first second (suc (suc zero)) within = c.join-3.ensures.both (numbers 2) (others 2) (first 2 within) (second 2 within)
returns c numbers others first second (suc (suc (suc zero))) within = c.join-4.ensures.both (numbers 3) (others 3) (first 3 within) (second 3 within)
returns c numbers others first second (suc (suc (suc (suc i)))) within = absurd (omega arith)
