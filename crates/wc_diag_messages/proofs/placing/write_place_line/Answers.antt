use Rattle.wc_diag_messages.proofs.Assembled.{seven_after}
use Rattle.wc_diag_messages.proofs.placing.write_place_line.Goals as goal

pub returns : goal.returns
returns c =
    seven_after c.end_line.result c.args.message.now.bytes.items _ _ _ _ _ _ _ _ _ _ _ _ _ _ c.in_ok-append.ensures c.in_ok-say.ensures.all c.in_ok-add.ensures c.in_ok-write_line.ensures
    (rw c.first_column.ensures at c.in_ok-write_line-2.ensures) c.in_ok-write_in_brackets.ensures c.end_line.ensures
