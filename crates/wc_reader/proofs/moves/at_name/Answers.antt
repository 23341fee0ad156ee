use Rattle.std.proofs.Common.{refl}
use Rattle.wc_reader.proofs.moves.at_name.Goals as goal

pub returns-in-Identifier-clause-following : goal.returns-in-Identifier-clause-following
returns-in-Identifier-clause-following c = λ units colon.
    rw (c.in-Identifier.is, c.body_start.ensures.start units, c.word.ensures.spelled, c.word.ensures.here, c.new.ensures.items, c.new-in-Identifier.ensures.items) refl
