use Rattle.wc_diag_spans.specs.Lines.{AreLinesAbove}
use Rattle.wc_diag_spans.proofs.lines.line_at.Given as goal

-- the lines above were passed
abbrev pub invariant-loop-passed : goal.invariant-loop-passed
invariant-loop-passed l = AreLinesAbove l.text l._passed l.rest
