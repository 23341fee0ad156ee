-- What the look ahead finds lies within the text, and what it says of its place.
use Rattle.wc_model.proofs.Common.{true, false, cond, ◌≡◌, ℕ, zero, suc, ◌≤◌, List, [], ◌∷◌, length, take, Ok, Err, refl, ap, ◌∙◌, ⊎_elim, arith, or_cases, bytes_decides}
use Rattle.wc_laws_grammar.specs.Sights.{Take, Refuse, sight_by_reach, sight_of_lexeme, reach}
use Rattle.wc_model.specs.Definitions.{comment_closing, comment_opening, from_bracket, starts_with_bracket, Shape, shape_of}

-- a lexeme with a shape
pub sees_token : (count : ℕ) (text : List ℕ) (shape : Shape) → count ≡ reach text → ¬ (count ≡ 0) → Ok shape ≡ shape_of (take count text) → Take count shape ≡ sight_by_reach (reach text) text
sees_token zero text shape e some validated = absurd (some refl)
sees_token (suc n) text shape e some validated = ap (sight_of_lexeme (suc n)) validated ∙ ap (λ k. sight_by_reach k text) e

-- a lexeme with a fault
pub sees_fault : (count number : ℕ) (text : List ℕ) → count ≡ reach text → ¬ (count ≡ 0) → Err number ≡ shape_of (take count text) → Refuse number ≡ sight_by_reach (reach text) text
sees_fault zero number text e some validated = absurd (some refl)
sees_fault (suc n) number text e some validated = ap (sight_of_lexeme (suc n)) validated ∙ ap (λ k. sight_by_reach k text) e

-- what opens or closes a comment has two bytes
pub bracket_is_long : (b : ℕ) (rest : List ℕ) → starts_with_bracket (b ∷ rest) ≡ true → 1 ≤ length rest
bracket_is_long b (c ∷ rest) h = omega arith
bracket_is_long b [] h = ⊎_elim (λ opens. let e : comment_opening ≡ b ∷ [] = (bytes_decides comment_opening (b ∷ [])).0 opens in absurd (cc)) (λ closes. let e : comment_closing ≡ b ∷ [] = (bytes_decides comment_closing (b ∷ [])).0 closes in absurd (cc)) (or_cases _ _ h)

-- so has what is left from the first one on
pub left_is_long : (text : List ℕ) → 1 ≤ length (from_bracket text) → 2 ≤ length (from_bracket text)
left_is_long [] h = absurd (omega arith)
left_is_long (b ∷ rest) h =
    elim (starts_with_bracket (b ∷ rest)) as (λ v. starts_with_bracket (b ∷ rest) ≡ v → 1 ≤ length (cond v (b ∷ rest) (from_bracket rest)) → 2 ≤ length (cond v (b ∷ rest) (from_bracket rest)))
    [ true ↦ λ e k. omega (arith, bracket_is_long b rest e) | false ↦ λ e k. left_is_long rest k ] refl h
