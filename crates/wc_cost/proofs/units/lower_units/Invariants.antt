use Rattle.std.proofs.Common.{◌≡◌, List, map, drop, length}
use Rattle.wc_names.specs.RepresentsText.{AreTables, onto}
use Rattle.wc_model.specs.Definitions.{ProgramUnit, unit_view}
use Rattle.wc_cost.proofs.Measured.{AreSoFar}
use Rattle.wc_cost.specs.Faultless.{IsFaultless}
use Rattle.wc_cost.proofs.units.lower_units.Given as goal

-- the units that are left follow those that are lowered
abbrev pub invariant-loop-number : goal.invariant-loop-number
invariant-loop-number l =
    (before : List ProgramUnit) × (onto before (map unit_view (drop l.number l.unit-items)) ≡ map unit_view l.unit-items) × (length before ≡ l.number)
    × (AreTables l.tables (map unit_view l.unit-items) → IsFaultless (map unit_view l.unit-items) → AreSoFar before l.units.items)
