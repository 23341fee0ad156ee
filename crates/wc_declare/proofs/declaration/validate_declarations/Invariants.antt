use Rattle.wc_model.proofs.Common.{List, map, drop, flat_map}
use Rattle.wc_model.specs.Definitions.{ProgramUnit, Text, declaration_view, unit_view}
use Rattle.wc_names.specs.Spelled.{spelled_in, spelled_in_table}
use Rattle.wc_declare.proofs.SpelledSoFar.{AreSpelledOn}
use Rattle.wc_declare.specs.SoFar.{IsEmptyOf, AreUnitsOf}
use Rattle.wc_declare.proofs.DeclaredSoFar.{Declares}
use Rattle.wc_declare.proofs.declaration.validate_declarations.Given as goal

-- the declarations that are left follow those so far
abbrev pub invariant-loop-declaration : goal.invariant-loop-declaration
invariant-loop-declaration l =
    ((text : Text) (before : List ProgramUnit) → AreUnitsOf text before l.units → IsEmptyOf (unit_view l.unit) l.initial.table →
    Declares text before (unit_view l.unit) l.table (map declaration_view l.declaration-items) (map declaration_view (drop l.declaration-index l.declaration-items)))
    × AreSpelledOn (spelled_in_table l.initial.table) (spelled_in_table l.table) (flat_map spelled_in (drop l.declaration-index l.declaration-items)) (flat_map spelled_in l.declaration-items)
