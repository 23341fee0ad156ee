use Rattle.wc_reader.proofs.ends.open_at_end.Goals as goal

pub returns-in-InBody-clause-reported : goal.returns-in-InBody-clause-reported
returns-in-InBody-clause-reported c = λ units last. rw c.in-InBody.is (c.open_in_body.ensures.reported units last)
