use Rattle.std.proofs.Common.{◌++◌, false, refl, inl, inr}
use Rattle.std.specs.Prelude.{[], ◌∷◌, codes, None}
use Rattle.wc_model.specs.Definitions.{End, Plain, IsPrefix}
use Rattle.wc_laws_grammar.proofs.Spelling.{spelling}
use Rattle.wc_laws_grammar.proofs.WalkedUnits.{units_walked}
use Rattle.wc_examples_language.specs.{ident, end_of, program_of, bare_load_before, load_true}
use Rattle.wc_examples_language.proofs.reading_faults.a_load_of_nothing.Goals as goal

-- `PROGRAM P / LD /` is not a prefix: a text is walked, and there the walk does not go on, whatever follows
no_prefix : ¬ (IsPrefix (bare_load_before ++ end_of 2 ∷ []))
no_prefix h = let walked = units_walked h.1.0 (bare_load_before ++ end_of 2 ∷ h.0) false refl h.1.1.spelled in cc

pub returns-clause-prefix : goal.returns-clause-prefix
returns-clause-prefix c = (ident (codes "TRUE") 2 ∷ end_of 2 ∷ ident (codes "END_PROGRAM") 3 ∷ [], (program_of (Plain None 2 load_true End) ∷ [], record { spelled = search (spelling, inl, inr) depth 60 fits 20000; order = refl }))

pub returns-clause-raised : goal.returns-clause-raised
returns-clause-raised c = (no_prefix, refl)
