use Rattle.wc_text_lines.proofs.calls.at_list.Goals as goal

pub returns-in-AtFirst : goal.returns-in-AtFirst
returns-in-AtFirst c = λ started setting colon. rw c.in-AtFirst.is (c.at_first.ensures started setting colon)

pub returns-in-AtAssign : goal.returns-in-AtAssign
returns-in-AtAssign c = λ started setting colon. rw c.in-AtAssign.is (c.at_assign.ensures started setting colon)

pub returns-in-AtValue : goal.returns-in-AtValue
returns-in-AtValue c = rw c.in-AtValue.is c.at_value.ensures

pub returns-in-AtEnd : goal.returns-in-AtEnd
returns-in-AtEnd c = λ started setting colon. rw c.in-AtEnd.is (c.at_end.ensures started setting colon)

pub returns-in-AtNext : goal.returns-in-AtNext
returns-in-AtNext c = λ started setting colon. rw c.in-AtNext.is (c.at_next.ensures started setting colon)
