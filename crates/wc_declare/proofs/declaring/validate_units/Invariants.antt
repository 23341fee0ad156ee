use Rattle.std.proofs.Common.{[], map, drop}
use Rattle.wc_model.specs.Language.Views.{unit_view}
use Rattle.wc_names.specs.Spelled.{spelled_in_table, spelled_of_unit}
use Rattle.wc_declare.specs.SoFar.{AreUnitsOf}
use Rattle.wc_declare.proofs.SpelledSoFar.{AreNamedOn}
use Rattle.wc_declare.proofs.UnitsSoFar.{Reads}
use Rattle.wc_declare.proofs.declaring.validate_units.Given as goal

-- the units that are left follow those so far
abbrev pub invariant-loop-unit : goal.invariant-loop-unit
invariant-loop-unit l =
    (AreUnitsOf (map unit_view l.unit-items) [] l.initial.units → Reads (map unit_view l.unit-items) (map unit_view (drop l.unit-index l.unit-items)) l.units)
    × AreNamedOn (map spelled_in_table l.initial.units.tables.items) (map spelled_in_table l.units.tables.items) (map spelled_of_unit (drop l.unit-index l.unit-items)) (map spelled_of_unit l.unit-items)
