use Rattle.wc_reader.proofs.moves.outside.Goals as goal

pub returns-in-Identifier-clause-following : goal.returns-in-Identifier-clause-following
returns-in-Identifier-clause-following c = λ units colon. rw c.in-Identifier.is (c.at_first_word.ensures.following units)
