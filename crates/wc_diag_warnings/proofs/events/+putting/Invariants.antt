use Rattle.std.proofs.Common.{◌≡◌, ◌++◌, drop}
use Rattle.wc_model.specs.Language.Views.{lines_view}
use Rattle.wc_diag_warnings.specs.{events_of, events_view}
use Rattle.wc_diag_warnings.proofs.events.+putting.Given as goal

-- with the lines that are left it is the whole list
abbrev pub invariant-put_lines-loop-line : goal.invariant-put_lines-loop-line
invariant-put_lines-loop-line l =
    events_view l.events.items ++ events_of (lines_view (drop l.line-index l.lines))
    ≡ events_view l.initial.events.items ++ events_of (lines_view l.lines)
