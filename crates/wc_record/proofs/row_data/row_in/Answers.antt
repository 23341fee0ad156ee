use Rattle.wc_record.proofs.ThreeFields.{row_read, row_refused}
use Rattle.wc_record.proofs.row_data.row_in.Goals as goal
use Rattle.wc_record.specs.Views.{head_data_view}

pub returns-in-Ok-clause-says : goal.returns-in-Ok-clause-says
returns-in-Ok-clause-says c =
    row_read _ c.in-Some.fields.moment.now c.in-Some.fields.kind.now c.in-Some.fields.text.now c.args.number c.args.last c.in-Some-moment.ms (head_data_view c.row_data.new.buffer.items c.in-Ok.kind) c.in-Some.ensures c.in-Some-moment.ensures c.if-ms-last.false c.in-Ok.ensures.says

pub returns-in-Err : goal.returns-in-Err
returns-in-Err c = record {
  says = row_refused c.row_data.new.buffer.items _ c.in-Some.fields.moment.now c.in-Some.fields.kind.now c.in-Some.fields.text.now c.args.number c.args.last c.in-Some-moment.ms c.in-Err.fault c.in-Some.ensures c.in-Some-moment.ensures c.if-ms-last.false c.in-Err.ensures.says;
  range = tt;
}
