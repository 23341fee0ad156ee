use Rattle.wc_model.proofs.Common.{◌≡◌, ◌+◌, [], drop, ap, subst, ◌∙◌, drop_all}
use Rattle.wc_model.specs.Definitions.{lines_of, lines_view}
use Rattle.wc_verify.specs.Bodies.{row_at}
use Rattle.wc_verify.proofs.BodyLines.{AreCounted, all_counted, one_counted}
use Rattle.wc_verify.proofs.InstrLines.{first_seen}
use Rattle.wc_verify.proofs.labels.count_labels.Goals as goal

pub loop-line-preserved : goal.loop-line-preserved
loop-line-preserved c =
    let items = c.deref-line-items.result.now in
    let i = c.loop-line.line-index in
    one_counted (lines_of (lines_view items)) c.line-item.result (lines_view (drop (i + 1) items)) i c.loop-line.labels c.count.new.labels
    (subst (λ ls. AreCounted (lines_of (lines_view items)) (lines_of ls) i c.loop-line.labels) (first_seen items i c.line-item.result c.loop-line-test.true c.line-item.is) c.loop-line.invariant)
    c.in_ok-count.ensures.counted

pub returns-clause-rows : goal.returns-clause-rows
returns-clause-rows c = λ scope name.
    let items = c.deref-line-items.result.now in
    let end : drop c.loop-line.line-index items ≡ [] = drop_all c.loop-line.line-index items c.loop-line-test.false in
    all_counted (lines_of (lines_view items)) c.loop-line.line-index c.loop-line.labels
    (subst (λ xs. AreCounted (lines_of (lines_view items)) (lines_of (lines_view xs)) c.loop-line.line-index c.loop-line.labels) end c.loop-line.invariant) scope name
    ∙ ap (λ xs. row_at scope [] (lines_of (lines_view xs)) name) c.deref-line-items.ensures.value
