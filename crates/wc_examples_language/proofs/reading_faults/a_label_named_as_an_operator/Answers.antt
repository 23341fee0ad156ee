use Rattle.wc_model.proofs.Common.{refl, inl, inr, codes}
use Rattle.wc_laws_grammar.proofs.Spelling.{spelling}
use Rattle.wc_examples_language.specs.Faulty.{after_short_opening}
use Rattle.wc_examples_language.proofs.reading_faults.a_label_named_as_an_operator.Goals as goal

pub returns : goal.returns
returns c = (after_short_opening, search (spelling, inl, inr) depth 60 fits 20000, λ e. cc, inr ((codes "ld", refl), refl), refl)
