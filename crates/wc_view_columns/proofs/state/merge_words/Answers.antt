use Rattle.std.proofs.Common.{zero, suc, arith}
use Rattle.wc_view_columns.proofs.Joined.{both_spans}
use Rattle.wc_view_columns.proofs.state.merge_words.Goals as goal

pub returns : goal.returns
returns c words others first second other zero within =
    both_spans (words 0) (others 0) _ _ _ (first _ 0 within) (second _ 0 within) c.merge.ensures.least c.merge.ensures.greatest c.merge.ensures.last
returns c words others first second other (suc zero) within =
    both_spans (words 1) (others 1) _ _ _ (first _ 1 within) (second _ 1 within) c.merge-2.ensures.least c.merge-2.ensures.greatest c.merge-2.ensures.last
returns c words others first second other (suc (suc zero)) within =
    both_spans (words 2) (others 2) _ _ _ (first _ 2 within) (second _ 2 within) c.merge-3.ensures.least c.merge-3.ensures.greatest c.merge-3.ensures.last
returns c words others first second other (suc (suc (suc zero))) within =
    both_spans (words 3) (others 3) _ _ _ (first _ 3 within) (second _ 3 within) c.merge-4.ensures.least c.merge-4.ensures.greatest c.merge-4.ensures.last
returns c words others first second other (suc (suc (suc (suc i)))) within = absurd (omega arith)
