use Rattle.std.proofs.Common.{[], drop}
use Rattle.wc_model.specs.Definitions.{lines_of, Scope, lines_view}
use Rattle.wc_verify.specs.{GetsTo, IsScope}
use Rattle.wc_verify.proofs.bodies.validate_body.Given as goal

-- nothing is broken before the lines that are left
abbrev pub invariant-loop-line : goal.invariant-loop-line
invariant-loop-line l =
    (scope : Scope) → IsScope l.tables l.unit scope → GetsTo scope [] (lines_of (lines_view l.line-items)) (lines_of (lines_view (drop l.line-index l.line-items))) l.labels l.above
