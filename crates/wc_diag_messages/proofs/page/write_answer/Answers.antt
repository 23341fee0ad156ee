use Rattle.wc_diag_messages.proofs.Assembled.{five_after}
use Rattle.wc_diag_messages.proofs.page.write_answer.Goals as goal

pub returns : goal.returns
returns c =
    five_after c.end_line.result c.args.message.now.bytes.items _ _ _ _ _ _ _ _ _ _ c.in_ok-say.ensures.all c.in_ok-count.ensures c.in_ok-say-2.ensures.all c.in_ok-count-2.ensures c.end_line.ensures
