use Rattle.wc_model.proofs.Common.{◌≡◌, ◌++◌, map, drop, flat_map}
use Rattle.wc_model.specs.Language.Views.{unit_view}
use Rattle.wc_diag_warnings.specs.{warnings_view, unit_warnings}
use Rattle.wc_diag_warnings.proofs.diagnostic.find_warnings.Given as goal

-- with the units that are left these are all
abbrev pub invariant-loop-unit : goal.invariant-loop-unit
invariant-loop-unit l =
    warnings_view l.warnings.items ++ flat_map unit_warnings (map unit_view (drop l.unit-index l.unit-items))
    ≡ flat_map unit_warnings (map unit_view l.unit-items)
