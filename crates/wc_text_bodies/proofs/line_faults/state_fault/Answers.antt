use Rattle.wc_text_bodies.proofs.line_faults.state_fault.Goals as goal

pub returns-in-Labelled : goal.returns-in-Labelled
returns-in-Labelled c = λ units. rw c.in-Labelled.is (c.labelled_fault.ensures units)
