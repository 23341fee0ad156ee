use Rattle.wc_model.proofs.Common.{◌≡◌, ◌++◌, map, drop, flat_map}
use Rattle.wc_model.specs.Definitions.{ProgramUnit, unit_view}
use Rattle.wc_view_trace_rows.specs.Named.{IsWhole, lines_named, notes_named}
use Rattle.wc_view_trace_rows.proofs.noting.note_units.Given as goal

-- with the units that are left it is the whole text
abbrev pub invariant-loop-unit : goal.invariant-loop-unit
invariant-loop-unit l =
    (notes_named l.notes ++ flat_map (λ (unit : ProgramUnit). lines_named unit.body) (map unit_view (drop l.unit-index l.unit-items))
    ≡ notes_named l.initial.notes ++ flat_map (λ (unit : ProgramUnit). lines_named unit.body) (map unit_view l.unit-items))
    × IsWhole l.notes
