use Rattle.wc_model.proofs.Common.{◌≡◌, ◌++◌, map, drop, flat_map}
use Rattle.wc_model.specs.Definitions.{name_of, assignment_view}
use Rattle.wc_view_trace_rows.specs.Named.{IsWhole, item_named, notes_named}
use Rattle.wc_view_trace_rows.proofs.noting.note_items.Given as goal

-- with the items that are left it is the whole list
abbrev pub invariant-loop-argument : goal.invariant-loop-argument
invariant-loop-argument l =
    (notes_named l.notes ++ flat_map (item_named l.direction (name_of l.instance)) (map assignment_view (drop l.argument-index l.arguments))
    ≡ notes_named l.initial.notes ++ flat_map (item_named l.direction (name_of l.instance)) (map assignment_view l.arguments))
    × IsWhole l.notes
