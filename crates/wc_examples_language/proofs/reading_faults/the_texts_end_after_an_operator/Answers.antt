use Rattle.wc_model.proofs.Common.{refl, [], ◌∷◌, ◌++◌, codes}
use Rattle.wc_examples_language.proofs.reading_faults.the_texts_end_after_an_operator.Goals as goal
use Rattle.wc_examples_language.specs.{loaded, ident}
use Rattle.wc_laws_grammar.proofs.FaultLaws.{raised_at_end}
use Rattle.wc_model.specs.Text.ReadingFaults.{UnitNotClosed}

pub returns : goal.returns
returns c = raised_at_end (loaded ++ ident (codes "AND") 3 ∷ []) 3 (record { fault = UnitNotClosed; line = 1 }) _ refl (tt, tt) refl
