use Rattle.std.proofs.Common.{◌≡◌, ◌≤◌, ◌==◌, take, count_by}
use Rattle.wc_diag_spans.proofs.lines.line_feeds.Given as goal

-- the line feeds among the bytes so far
abbrev pub invariant-loop-index : goal.invariant-loop-index
invariant-loop-index l = (l.feeds ≡ count_by (λ byte. byte == 10) (take l.index l.text)) × (l.feeds ≤ l.index)
