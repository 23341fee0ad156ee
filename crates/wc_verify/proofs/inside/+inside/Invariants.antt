use Rattle.std.proofs.Common.{List, Ok, drop}
use Rattle.wc_model.specs.Definitions.{Check, Scope, lines_view}
use Rattle.wc_verify.specs.{GoesInside, IsScope}
use Rattle.wc_verify.proofs.inside.+inside.Given as goal

-- the lines so far break nothing, and hand on the kind
abbrev pub invariant-validate_inside-loop-line : goal.invariant-validate_inside-loop-line
invariant-validate_inside-loop-line l =
    (scope : Scope) (more : List Check) → IsScope l.tables l.unit scope → GoesInside scope (lines_view l.line-items) l.fn.first (lines_view (drop l.line-index l.line-items)) more (Ok l.kind)
