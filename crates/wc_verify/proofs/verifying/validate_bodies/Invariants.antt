use Rattle.std.proofs.Common.{map, drop}
use Rattle.wc_model.specs.Language.Views.{unit_view}
use Rattle.wc_names.specs.RepresentsText.{AreTables}
use Rattle.wc_verify.proofs.BodyUnits.{UnitsLeft}
use Rattle.wc_verify.proofs.verifying.validate_bodies.Given as goal

-- nothing is broken before the units that are left
abbrev pub invariant-loop-number : goal.invariant-loop-number
invariant-loop-number l = AreTables l.tables (map unit_view l.unit-items) → UnitsLeft (map unit_view l.unit-items) (map unit_view (drop l.number l.unit-items)) l.number
