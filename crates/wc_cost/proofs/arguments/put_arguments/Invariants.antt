use Rattle.std.proofs.Common.{map, drop}
use Rattle.wc_model.specs.Definitions.{name_of, Scope, assignment_view}
use Rattle.wc_cost.specs.{ArePassable, AddsPassed}
use Rattle.wc_verify.specs.Seeing.{IsScope}
use Rattle.wc_cost.proofs.arguments.put_arguments.Given as goal

-- those of the list from the index on are there
abbrev pub invariant-loop-index : goal.invariant-loop-index
invariant-loop-index l =
    (scope : Scope) → IsScope l.tables l.unit scope → ArePassable scope (name_of l.instance) (map assignment_view l.arguments) →
    AddsPassed l.direction scope (name_of l.instance) l.line (map assignment_view (drop l.index l.arguments)) l.initial.flat l.flat
