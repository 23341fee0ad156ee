use Rattle.std.proofs.Common.{refl, inl, inr}
use Rattle.std.specs.Prelude.{[], ◌∷◌, codes, None}
use Rattle.wc_model.specs.Language.Tree.{End, Plain}
use Rattle.wc_laws_grammar.proofs.Spelling.{spelling}
use Rattle.wc_examples_language.specs.{ident, program_of, load_true, after_load}
use Rattle.wc_examples_language.proofs.reading_faults.a_bracket_with_none_open.Goals as goal

pub returns-clause-prefix : goal.returns-clause-prefix
returns-clause-prefix c = (ident (codes "END_PROGRAM") 9 ∷ [], (program_of (Plain None 2 load_true End) ∷ [], record { spelled = search (spelling, inl, inr) depth 60 fits 20000; order = refl }))

pub returns-clause-raised : goal.returns-clause-raised
returns-clause-raised c = (after_load, search (spelling, inl, inr) depth 60 fits 20000, inl (refl, refl, refl))
