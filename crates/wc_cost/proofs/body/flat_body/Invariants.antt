use Rattle.std.proofs.Common.{drop}
use Rattle.wc_model.specs.Definitions.{Scope, lines_view}
use Rattle.wc_cost.specs.{IsLowerable, IsKeptFlat}
use Rattle.wc_verify.specs.Seeing.{IsScope}
use Rattle.wc_cost.proofs.body.flat_body.Given as goal

-- the lines from the index on are there, and their labels
abbrev pub invariant-loop-index : goal.invariant-loop-index
invariant-loop-index l =
    (scope : Scope) → IsScope l.tables l.unit scope → IsLowerable scope (lines_view l.lines) → IsKeptFlat scope (lines_view (drop l.index l.lines)) l.labels l.flat
