use Rattle.std.proofs.Common.{refl, arith}
use Rattle.std.specs.Prelude.{[], ◌∷◌}
use Rattle.wc_model.specs.Language.Tree.{End}
use Rattle.wc_laws_grammar.proofs.Spelling.{spelling}
use Rattle.wc_model.specs.declared.source.UnitKind.TheVariants.{Program}
use Rattle.wc_examples_language.specs.Texts.{program_of}
use Rattle.wc_examples_language.proofs.reading_faults.a_second_program.Goals as goal

pub returns-clause-prefix : goal.returns-clause-prefix
returns-clause-prefix c = ([], (program_of (End) ∷ [], record { spelled = search spelling depth 60 fits 20000; order = refl }))

pub returns-clause-raised : goal.returns-clause-raised
returns-clause-raised c = (program_of End ∷ [], search spelling depth 60 fits 20000, (0, program_of End, omega arith, refl, refl), (Program, refl), refl)
