use Rattle.std.proofs.Common.{◌≡◌, take}
use Rattle.wc_diag_spans.specs.Rows.{joined}
use Rattle.wc_record.specs.Reported.{fields_reported}
use Rattle.wc_diag_spans.proofs.rows.shown_row.Given as goal

-- the fields so far are shown
abbrev pub invariant-loop-place : goal.invariant-loop-place
invariant-loop-place l = l.text.items ≡ joined (take l.place (fields_reported l.row))
