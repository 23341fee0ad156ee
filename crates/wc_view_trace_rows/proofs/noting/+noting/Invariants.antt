use Rattle.std.proofs.Common.{◌≡◌, ◌++◌, drop}
use Rattle.wc_model.specs.Language.Views.{lines_view}
use Rattle.wc_view_trace_rows.specs.Named.{IsWhole, lines_named, notes_named}
use Rattle.wc_view_trace_rows.proofs.noting.+noting.Given as goal

-- with the lines that are left it is the whole list
abbrev pub invariant-note_lines-loop-line : goal.invariant-note_lines-loop-line
invariant-note_lines-loop-line l =
    (notes_named l.notes ++ lines_named (lines_view (drop l.line-index l.lines)) ≡ notes_named l.initial.notes ++ lines_named (lines_view l.lines))
    × IsWhole l.notes
