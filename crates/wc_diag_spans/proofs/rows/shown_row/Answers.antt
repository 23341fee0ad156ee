use Rattle.std.proofs.Common.{◌∙◌, ◌++◌, ap, sym, arith}
use Rattle.wc_diag_spans.proofs.RowFields.{row_grows, row_shown}
use Rattle.wc_diag_spans.specs.Rows.{glued, shown_field}
use Rattle.wc_record.specs.Reported.{fields_reported}
use Rattle.wc_diag_spans.proofs.rows.shown_row.Goals as goal

pub loop-place-preserved : goal.loop-place-preserved
loop-place-preserved c =
    let fields = fields_reported c.args.row.now in
    let place = c.loop-place.place in
    c.in_ok-add_field.ensures ∙ ap (λ text. text ++ glued place (shown_field fields place)) c.loop-place.invariant ∙ sym (row_grows fields place (omega (arith, c.len.ensures, c.min-place-end.ensures)))

pub returns : goal.returns
returns c = c.loop-place.invariant ∙ row_shown (fields_reported c.args.row.now) c.loop-place.place (omega (arith, c.len.ensures, c.min-place-end.ensures))
