use Rattle.std.proofs.Common.{refl, inl, inr, true}
use Rattle.std.specs.Prelude.{[], ◌∷◌, codes, Some, None}
use Rattle.wc_model.specs.Definitions.{Return, Constant, End, Plain, Nested, ClosingBracket}
use Rattle.wc_laws_grammar.proofs.Spelling.{spelling}
use Rattle.wc_model.specs.declared.operator.Condition.TheVariants.{Always}
use Rattle.wc_model.specs.declared.operator.Operator.TheVariants.{And}
use Rattle.wc_model.specs.declared.value.Value.TheVariants.{Bool as BoolValue}
use Rattle.wc_examples_language.specs.{mark, ident, end_of, program_of, load_true, after_short_opening}
use Rattle.wc_examples_language.proofs.reading_faults.a_return_in_parentheses.Goals as goal

pub returns-clause-prefix : goal.returns-clause-prefix
returns-clause-prefix c = (mark ClosingBracket 8 ∷ end_of 8 ∷ ident (codes "END_PROGRAM") 9 ∷ [], (program_of (Plain None 2 load_true (Nested None 3 And (Some (Constant (BoolValue true))) End 8 End)) ∷ [], record { spelled = search (spelling, inl, inr) depth 60 fits 20000; order = refl }))

pub returns-clause-raised : goal.returns-clause-raised
returns-clause-raised c = (after_short_opening, search (spelling, inl, inr) depth 60 fits 20000, λ e. cc, inl (Return Always, tt, refl), refl)
