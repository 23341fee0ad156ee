use Rattle.wc_diag_stops.proofs.expected.in_body.Goals as goal

pub returns-in-AtLine : goal.returns-in-AtLine
returns-in-AtLine c = λ units. rw c.in-AtLine.is (c.at_line.ensures units)
