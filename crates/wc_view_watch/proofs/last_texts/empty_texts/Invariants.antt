use Rattle.std.proofs.Common.{◌≡◌, [], map, replicate}
use Rattle.wc_view_watch.proofs.last_texts.empty_texts.Given as goal

-- as many empty texts as there were rounds
abbrev pub invariant-loop-index : goal.invariant-loop-index
invariant-loop-index l = map (λ text. text.items) l.texts.items ≡ replicate l._index []
