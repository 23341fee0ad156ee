use Rattle.std.proofs.Common.{refl, inl, inr}
use Rattle.std.specs.Prelude.{[]}
use Rattle.wc_laws_grammar.proofs.Spelling.{spelling}
use Rattle.wc_examples_language.specs.Faulty.{after_short_opening, short_opening}
use Rattle.wc_examples_language.proofs.reading_faults.an_open_parenthesis_at_the_units_end.Goals as goal

pub returns : goal.returns
returns c = (after_short_opening, search (spelling, inl, inr) depth 60 fits 20000, inr (short_opening, ([], refl), refl, refl))
