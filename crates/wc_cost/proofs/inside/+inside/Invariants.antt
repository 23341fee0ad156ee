use Rattle.std.proofs.Common.{drop}
use Rattle.wc_model.specs.Definitions.{Scope, lines_view}
use Rattle.wc_cost.specs.{IsInsideLowerable, AddsLines}
use Rattle.wc_verify.specs.Seeing.{IsScope}
use Rattle.wc_cost.proofs.inside.+inside.Given as goal

-- the lines from the index on are there
abbrev pub invariant-put_inside-loop-index : goal.invariant-put_inside-loop-index
invariant-put_inside-loop-index l =
    (scope : Scope) → IsScope l.tables l.unit scope → IsInsideLowerable scope (lines_view l.lines.items) → AddsLines scope (lines_view (drop l.index l.lines.items)) l.initial.flat l.flat
