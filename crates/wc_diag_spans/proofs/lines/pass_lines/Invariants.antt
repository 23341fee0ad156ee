use Rattle.std.proofs.Common.{◌≤◌}
use Rattle.wc_diag_spans.specs.Lines.{AreLinesAbove}
use Rattle.wc_diag_spans.proofs.lines.pass_lines.Given as goal

-- the lines above were passed
abbrev pub invariant-loop-chunk : goal.invariant-loop-chunk
invariant-loop-chunk l = AreLinesAbove l.text l.passed l.rest × (l.passed ≤ l.most)
