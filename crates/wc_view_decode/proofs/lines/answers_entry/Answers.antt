use Rattle.std.proofs.Common.{◌≡◌, rules}
use Rattle.wc_view_decode.proofs.ContentRows.{IsOnlyRow, otherwise_none, row_content, row_cut}
use Rattle.wc_view_decode.specs.Lines.{entry_content}
use Rattle.wc_model.specs.Say.Report.{AnswerLine, line_text}
use Rattle.wc_view_decode.proofs.lines.answers_entry.Goals as goal

pub returns-then-eq : goal.returns-then-eq
returns-then-eq c =
    let line = c.args.line.now in
    let row : IsOnlyRow line c.moment-ms.result c.in_ok-bytes.bytes.items = row_cut line _ _ _ _ _ _ _ _ c.cut_field.ensures c.cut_field-2.ensures c.cut_field-3.ensures c.moment-ms.ensures.number c.in_ok-bytes.ensures.bytes in
    let written : line_text (AnswerLine c.moment-ms.result c.in_ok-bytes.bytes.items) ≡ line = search rules in (
      row_content entry_content c.entry_of.result line c.in_ok-bytes.bytes.items c.moment-ms.result c.requires c.moment-ms.ensures.within
          written row (rw c.deref-then-eq.ensures.value at c.entry_of.ensures.reported),
      c.entry_of.ensures.memory,
    )

pub returns : goal.returns
returns c =
    let line = c.args.line.now in
    let row : IsOnlyRow line c.moment-ms.result c.in_ok-bytes.bytes.items = row_cut line _ _ _ _ _ _ _ _ c.cut_field.ensures c.cut_field-2.ensures c.cut_field-3.ensures c.moment-ms.ensures.number c.in_ok-bytes.ensures.bytes in
    let other : ¬ (line_text (AnswerLine c.moment-ms.result c.in_ok-bytes.bytes.items) ≡ line) = λ e. search rules in
    (otherwise_none line c.in_ok-bytes.bytes.items c.moment-ms.result c.requires other row, tt)
