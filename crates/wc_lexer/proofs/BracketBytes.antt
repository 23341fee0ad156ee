-- Bytes that begin no bracket of a comment are passed over.
use Rattle.wc_model.proofs.Common.{◌≡◌, ℕ, zero, suc, ◌≤◌, Bool, true, false, cond, List, [], ◌∷◌, length, drop, take, refl, sym, ◌∙◌, subst, ⊎_elim, arith, or_cases, bytes_decides}
use Rattle.memchr.specs.Find.{Nowhere, Passes, is_byte2}
use Rattle.wc_model.specs.Text.Blanks.{comment_closing, comment_opening, from_bracket, starts_with_bracket}

-- the byte may begin a bracket
abbrev pub is_bracket_byte : ℕ → Bool
is_bracket_byte = is_byte2 40 42

-- a bracket begins with such a byte
pub bracket_begins : (b : ℕ) (rest : List ℕ) → starts_with_bracket (b ∷ rest) ≡ true → is_bracket_byte b ≡ true
bracket_begins b rest h =
    ⊎_elim
    (λ opens. let e = (bytes_decides comment_opening (take 2 (b ∷ rest))).0 opens in let first : 40 ≡ b = cc in subst (λ x. is_bracket_byte x ≡ true) first refl)
    (λ closes. let e = (bytes_decides comment_closing (take 2 (b ∷ rest))).0 closes in let first : 42 ≡ b = cc in subst (λ x. is_bracket_byte x ≡ true) first refl)
    (or_cases _ _ h)

-- no bracket begins with another byte
pub other_begins_none : (b : ℕ) (rest : List ℕ) → ¬ (is_bracket_byte b ≡ true) → from_bracket (b ∷ rest) ≡ from_bracket rest
other_begins_none b rest other =
    elim (starts_with_bracket (b ∷ rest)) as (λ v. starts_with_bracket (b ∷ rest) ≡ v → cond v (b ∷ rest) (from_bracket rest) ≡ from_bracket rest)
    [ true ↦ λ h. absurd (other (bracket_begins b rest h)) | false ↦ λ h. refl ] refl

-- up to the first such byte none begins
pub passed_over : (place : ℕ) (text : List ℕ) → place ≤ length text → Nowhere (Passes is_bracket_byte text) 0 place → from_bracket (drop place text) ≡ from_bracket text
passed_over zero text within none = refl
passed_over (suc n) [] within none = refl
passed_over (suc n) (b ∷ rest) within none =
    passed_over n rest (omega arith) (λ k low high. none (suc k) (omega arith) (omega arith)) ∙ sym (other_begins_none b rest (none 0 (omega arith) (omega arith)))
