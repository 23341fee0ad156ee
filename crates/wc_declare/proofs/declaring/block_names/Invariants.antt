use Rattle.std.proofs.Common.{◌≡◌, map, drop}
use Rattle.std.specs.Prelude.{◌||◌}
use Rattle.wc_model.specs.Definitions.{is_among, names_block_of, Name, unit_view}
use Rattle.wc_declare.proofs.declaring.block_names.Given as goal

-- the names so far, with those of the units that are left, are all
abbrev pub invariant-loop-unit : goal.invariant-loop-unit
invariant-loop-unit l = (name : Name) → (is_among l.names name || names_block_of (map unit_view (drop l.unit-index l.unit-items)) name) ≡ names_block_of (map unit_view l.unit-items) name
