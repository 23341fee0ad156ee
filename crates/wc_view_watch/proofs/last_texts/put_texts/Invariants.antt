use Rattle.wc_model.proofs.Common.{◌≡◌, ◌++◌, map, take, flat_map}
use Rattle.wc_view_watch.proofs.last_texts.put_texts.Given as goal

-- the texts so far are put
abbrev pub invariant-loop-text : goal.invariant-loop-text
invariant-loop-text l = l.out.items ≡ l.initial.out.items ++ flat_map (λ text. text) (map (λ text. text.items) (take l.text-index l.fn.texts))
