use Rattle.std.proofs.Common.{sym, ap, ◌∙◌}
use Rattle.wc_model.specs.Run.Log.{first_row, has_fields}
use Rattle.wc_record.proofs.ThreeFields.{three_are}
use Rattle.wc_record.proofs.row_data.is_first_row.Goals as goal

pub returns-in-Some : goal.returns-in-Some
returns-in-Some c =
    let f = c.in-Some.fields in
    c.is_first.ensures ∙ sym (ap (has_fields first_row) (three_are _ f.moment.now f.kind.now f.text.now c.in-Some.ensures))
