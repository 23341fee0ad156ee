use Rattle.wc_diag_messages.proofs.Assembled.{six_parts}
use Rattle.wc_diag_messages.proofs.explaining.long.Goals as goal

pub returns : goal.returns
returns c =
    six_parts _ _ _ _ _ _ _ _ _ _ _ _ _ c.new-message.ensures.nothing c.in_ok-write_number.ensures c.in_ok-append.ensures c.in_ok-end_line.ensures
    (rw c.in_ok-margin.ensures at c.in_ok-write_place_line.ensures) c.in_ok-write_snippet.ensures c.in_ok-write_help.ensures
