use Rattle.std.proofs.Common.{refl, inl, inr}
use Rattle.std.specs.Prelude.{[], ◌∷◌, codes, None}
use Rattle.wc_model.specs.Definitions.{Negate, End, InParentheses, part_of_line}
use Rattle.wc_laws_grammar.proofs.Spelling.{spelling}
use Rattle.wc_examples_language.specs.{ident, end_of, program_of, short_opening}
use Rattle.wc_examples_language.proofs.reading_faults.an_open_parenthesis_at_the_texts_end.Goals as goal

-- before a line, some instruction has still to come
stop : part_of_line InParentheses []
stop = inl (None, 9, Negate, (λ h. h, (ident (codes "NOT") 9, end_of 9 ∷ [], search spelling depth 60 fits 20000)))

pub returns : goal.returns
returns c = (short_opening, ([], program_of End, [], End, search (spelling, inl, inr, stop) depth 60 fits 20000), refl)
