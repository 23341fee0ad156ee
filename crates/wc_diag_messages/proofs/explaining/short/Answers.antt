use Rattle.wc_diag_messages.proofs.Assembled.{seven_parts}
use Rattle.wc_diag_messages.proofs.OneLine.{short_above}
use Rattle.wc_diag_messages.proofs.explaining.short.Goals as goal
use Rattle.wc_diag_messages.specs.Formats.{short_text}

pub returns : goal.returns
returns c =
    let name = c.args.name.now in
    let parts = c.args.parts.now in
    let all = seven_parts _ _ _ _ _ _ _ _ _ _ _ _ _ _ _ c.new-message.ensures.nothing c.in_ok-add.ensures c.in_ok-write_position.ensures c.in_ok-say.ensures.all c.in_ok-write_number.ensures c.in_ok-append.ensures c.in_ok-say_before.ensures c.in_ok-end_line.ensures in
    record {
      all = all;
      one = record { line = short_text name parts; ends = all; controls = short_above name parts c.requires };
    }
