use Rattle.wc_model.proofs.Common.{refl, inl, inr, arith, ℕ, List}
use Rattle.std.specs.Prelude.{[], ◌∷◌, ◌++◌, codes, None, map}
use Rattle.wc_model.specs.Definitions.{End, Mark, ◌then◌, InParentheses, lines, label_in, opening, openings_of}
use Rattle.wc_laws_grammar.proofs.Languages.{next, pass, cut_at, joined}
use Rattle.wc_laws_grammar.proofs.Spelling.{spelling}
use Rattle.wc_model.specs.declared.operator.Operator.TheVariants.{And}
use Rattle.wc_examples_language.specs.{ident, end_of, after_eight_openings, empty_opening, inner_opening, opening_line}
use Rattle.wc_examples_language.proofs.reading_faults.nine_parentheses.Goals as goal

-- the tokens of a body up to these openings, innermost first, after that of line 3
abbrev tokens_at : List ℕ → List Mark
tokens_at [] = end_of 1 ∷ ident (codes "LD") 2 ∷ ident (codes "TRUE") 2 ∷ end_of 2 ∷ opening_line 3
tokens_at (line ∷ outer) = tokens_at outer ++ opening_line line

-- the first
first : openings_of (empty_opening ∷ []) (tokens_at [])
first = search (spelling, inl, inr) depth 60 fits 20000

-- one opening line directly after another
one_line : (line : ℕ) → (lines InParentheses End then label_in InParentheses None then opening line And None) (opening_line line)
one_line line = search (spelling, inl) depth 60 fits 20000

-- each of them
all_open : (lines : List ℕ) → openings_of (map inner_opening lines ++ empty_opening ∷ []) (tokens_at lines)
all_open [] = first
all_open (line ∷ []) = joined (tokens_at []) (opening_line line) first (one_line line)
all_open (line ∷ next ∷ outer) = joined (tokens_at (next ∷ outer)) (opening_line line) (all_open (next ∷ outer)) (one_line line)

pub returns : goal.returns
returns c = (after_eight_openings, None, And, cut_at 30 (cut_at 30 (cut_at 0 (pass refl tt) (cut_at 2 (next (refl, refl) (next (refl, refl, refl) ([], refl, refl))) (cut_at 28 (all_open (10 ∷ 9 ∷ 8 ∷ 7 ∷ 6 ∷ 5 ∷ 4 ∷ [])) tt))) refl) (inl refl, refl), omega arith, refl)
