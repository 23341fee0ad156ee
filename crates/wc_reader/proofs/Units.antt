-- Whether there is a program among units, whether a parenthesis is open, and the last line of a text, from its last token.
use Rattle.std.proofs.Common.{◌≡◌, List, [], ◌∷◌, map, refl, ap, ℕ, ◌==◌, length, true, false, sym, ◌∙◌, arith, ◌+◌, ◌++◌, cond, drop, take, take-append-drop, count_by, Some}
use Rattle.wc_model.proofs.Common.{list_any, eqb-true, map-append, All-pop, sum_by-append}
use Rattle.std.specs.Prelude.{◌||◌}
use Rattle.wc_laws_grammar.specs.Moves.{has_program}
use Rattle.wc_model.specs.Definitions.{unit_view, last_line, IsSliceOf, IsCut}
use Rattle.wc_model.specs.declared.source.Unit.{Unit as CodeUnit}
use Rattle.wc_reader.specs.Reported.{is_program}
use Rattle.wc_text_bodies.specs.Views.{openings_view}
use Rattle.wc_text_bodies.specs.declared.bodies.Opening.{Opening}
use Rattle.wc_laws_grammar.proofs.TokenSlices.{tokens_are_slices}
use Rattle.wc_lexer.specs.Views.{token_view}
use Rattle.wc_lexer.specs.declared.shape.Token.{Token}

-- among units of the reader as among those of the tree
pub any-program : (xs : List CodeUnit) → list_any is_program xs ≡ has_program (map unit_view xs)
any-program [] = refl
any-program (x ∷ xs) = ap (λ b. is_program x || b) (any-program xs)

-- none is
pub none_open : (xs : List Opening) (n : ℕ) → n ≡ length xs → (n == 0) ≡ true → openings_view [] xs ≡ []
none_open [] n same e = refl
none_open (x ∷ xs) n same e = let zero_of : n ≡ 0 = eqb-true n 0 e in absurd (omega (arith, same))

-- one is
pub some_open : (xs : List Opening) (n : ℕ) → n ≡ length xs → (n == 0) ≡ false → (length xs == 0) ≡ false
some_open xs n same e = ap (λ m. m == 0) (sym same) ∙ e

-- the line of the last token, and the line feeds from its start on
pub counted_on : (text : List ℕ) (tokens before : List Token) (last : Token) → IsCut text (map token_view tokens) → tokens ≡ before ++ (last ∷ []) → last.line + count_by (λ byte. byte == 10) (drop last.start text) ≡ last_line text
counted_on text tokens before last cut e =
    let seen = ap (map token_view) e ∙ map-append token_view before (last ∷ []) in
    let slice = (All-pop (IsSliceOf text) (map token_view tokens) (map token_view before) (Some (token_view last)) seen (tokens_are_slices text (map token_view tokens) cut)).1 in
    let both = sum_by-append (λ b. cond (b == 10) 1 0) (take last.start text) (drop last.start text) in
    omega (arith, slice.counted, both, ap (count_by (λ byte. byte == 10)) (take-append-drop last.start text))
