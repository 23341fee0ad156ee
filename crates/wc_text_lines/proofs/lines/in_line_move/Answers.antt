use Rattle.wc_text_lines.proofs.lines.in_line_move.Goals as goal

pub returns-in-Jumped : goal.returns-in-Jumped
returns-in-Jumped c = λ started setting colon. rw c.in-Jumped.is (c.at_target.ensures started setting colon)

pub returns-in-Called : goal.returns-in-Called
returns-in-Called c = λ started setting colon. rw c.in-Called.is (c.at_called.ensures started setting colon)

pub returns-in-Instanced : goal.returns-in-Instanced
returns-in-Instanced c = λ started setting colon. rw c.in-Instanced.is (c.at_instance.ensures started setting colon)
