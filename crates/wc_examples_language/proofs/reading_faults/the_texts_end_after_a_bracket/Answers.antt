use Rattle.std.proofs.Common.{refl, inl, inr}
use Rattle.std.specs.Prelude.{[], ◌∷◌, codes}
use Rattle.wc_model.specs.Definitions.{End, LineEnd, unfinished, optional, ◌then◌, symbol, operand}
use Rattle.wc_laws_grammar.proofs.Spelling.{spelling}
use Rattle.wc_examples_language.specs.{ident, end_of, program_of, short_opening}
use Rattle.wc_examples_language.proofs.reading_faults.the_texts_end_after_a_bracket.Goals as goal

-- after the bracket an operand has still to come, or the end of the line
stop : unfinished (optional operand short_opening.operand then symbol LineEnd) []
stop = (ident (codes "TRUE") 3, end_of 3 ∷ [], search (spelling, inl, inr) depth 60 fits 20000)

pub returns : goal.returns
returns c = (short_opening, ([], program_of End, [], End, search (spelling, inl, inr, stop) depth 60 fits 20000), refl)
