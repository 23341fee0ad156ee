use Rattle.wc_model.proofs.Common.{◌∙◌, ap, slice_get}
use Rattle.wc_view_trace_rows.proofs.NotesFound.{from_number, found}
use Rattle.wc_view_trace_rows.specs.Notes.{of_line}
use Rattle.wc_view_trace_rows.proofs.notes.note_among.Goals as goal

pub returns : goal.returns
returns c = λ order.
    let notes = c.args.notes.now in
    let first = c.count_before.result in
    c.note_at.ensures
    ∙ ap (λ l. of_line c.args.line (slice_get l c.args.index)) c.split_at.ensures.back
    ∙ ap (of_line c.args.line) (from_number first c.args.index notes)
    ∙ found c.args.line notes first c.args.index order (c.count_before.ensures.before order) (c.count_before.ensures.from order) c.count_before.ensures.bound
