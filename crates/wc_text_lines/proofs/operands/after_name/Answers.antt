use Rattle.wc_text_lines.proofs.operands.after_name.Goals as goal

pub returns-else-pointed : goal.returns-else-pointed
returns-else-pointed c = rw c.if-pointed.false c.at_named.ensures
