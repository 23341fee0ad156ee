use Rattle.std.proofs.Common.{refl}
use Rattle.wc_diag_messages.proofs.Assembled.{five_parts}
use Rattle.wc_diag_messages.proofs.page.page_message.Goals as goal

pub returns : goal.returns
returns c =
    record {
      entry = c.args.entry.now;
      is = refl;
      plate = c.plate_a-plate.result.now;
      all = five_parts _ _ _ _ _ _ _ _ _ _ _ c.new-message.ensures.nothing c.in_ok-write_number.ensures c.in_ok-write_raised.ensures c.in_ok-write_plate.ensures c.in_ok-write_answer.ensures c.in_ok-write_help.ensures;
    }
