use Rattle.std.proofs.Common.{refl}
use Rattle.std.specs.Prelude.{[], ◌∷◌, drop}
use Rattle.wc_laws_grammar.proofs.Languages.{next, cut_at}
use Rattle.wc_laws_grammar.proofs.Spelling.{spelling, one_unit, sections_by}
use Rattle.wc_examples_language.specs.Texts.{program_text, body_then_end, declaration_tokens, declared_group, declaring_program}
use Rattle.wc_model.specs.Definitions.{is_line_end, ◌then◌, each, skipping, empty, end_var, End, declaration, identifier}
use Rattle.wc_model.specs.declared.source.Section.TheVariants.{Own}
use Rattle.wc_examples_language.proofs.spelled.a_declaration_of_two_names.Goals as goal

-- the declarations, in which line ends are skipped, and what follows
declared : (skipping is_line_end (each (declaration Own) declared_group.declarations) then identifier end_var then empty then body_then_end End) (drop 4 (program_text declaration_tokens 4))
declared = cut_at 9 (search spelling depth 60 fits 20000) (search spelling depth 60 fits 20000)

pub returns : goal.returns
returns c = record {
  spelled = one_unit declaring_program (next (refl, refl) (next (refl, refl, refl) (sections_by (declared_group ∷ []) refl (search (spelling, declared) depth 60 fits 20000))));
  order = refl;
}
