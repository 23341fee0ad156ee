use Rattle.std.proofs.Common.{refl, inl, inr}
use Rattle.std.specs.Prelude.{[], ◌∷◌, ◌++◌, codes, None, drop}
use Rattle.wc_model.specs.Definitions.{Lines, Negate, End, Plain, Nested, ClosingBracket}
use Rattle.wc_laws_grammar.proofs.Spelling.{spelling}
use Rattle.wc_model.specs.declared.operator.Operator.TheVariants.{And}
use Rattle.wc_examples_language.specs.{mark, ident, end_of, program_of, body_then_end, load_true, opened, following_opening, empty_opening}
use Rattle.wc_examples_language.proofs.reading_faults.empty_parentheses.Goals as goal

-- a parenthesis with NOT inside
abbrev closed : Lines
closed = Nested None 3 And None (Plain None 7 Negate End) 8 End

-- it is spelled from line 3 on
from_3 : body_then_end closed (drop 6 (opened ++ ident (codes "NOT") 7 ∷ end_of 7 ∷ mark ClosingBracket 8 ∷ end_of 8 ∷ ident (codes "END_PROGRAM") 9 ∷ []))
from_3 = search (spelling, inl) depth 60 fits 20000

pub returns-clause-prefix : goal.returns-clause-prefix
returns-clause-prefix c = (ident (codes "NOT") 7 ∷ end_of 7 ∷ mark ClosingBracket 8 ∷ end_of 8 ∷ ident (codes "END_PROGRAM") 9 ∷ [], (program_of (Plain None 2 load_true closed) ∷ [], record { spelled = search (spelling, inl, inr, from_3) depth 60 fits 20000; order = refl }))

pub returns-clause-raised : goal.returns-clause-raised
returns-clause-raised c = (following_opening, search (spelling, inl, inr) depth 60 fits 20000, empty_opening, ([], refl), λ h. h, refl, refl)
