use Rattle.std.proofs.Common.{drop}
use Rattle.wc_model.specs.Definitions.{lines_of, lines_view}
use Rattle.wc_verify.proofs.BodyLines.{AreCounted}
use Rattle.wc_verify.proofs.labels.count_labels.Given as goal

-- the lines so far are counted
abbrev pub invariant-loop-line : goal.invariant-loop-line
invariant-loop-line l = AreCounted (lines_of (lines_view l.line-items)) (lines_of (lines_view (drop l.line-index l.line-items))) l.line-index l.labels
