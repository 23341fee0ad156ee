use Rattle.wc_model.proofs.Common.{refl, [], ◌∷◌, codes}
use Rattle.wc_examples_language.proofs.reading_faults.the_texts_end_after_a_units_first_word.Goals as goal
use Rattle.wc_examples_language.specs.Texts.{ident}
use Rattle.wc_laws_grammar.proofs.FaultLaws.{raised_at_end}
use Rattle.wc_model.specs.Text.ReadingFaults.{UnitNotClosed}

pub returns : goal.returns
returns c = raised_at_end (ident (codes "PROGRAM") 1 ∷ []) 1 (record { fault = UnitNotClosed; line = 1 }) _ refl tt refl
