-- What is where a colon is.
use Rattle.wc_model.proofs.Common.{◌≡◌, ◌==◌, ℕ, ◌≤◌, Bool, true, false, cond, not, ◌||◌, List, [], ◌∷◌, length, drop, Option, Some, None, refl, sym, ap, ◌∙◌, subst, arith, true≢false, eqb-true, option_map_or}
use Rattle.wc_laws_grammar.proofs.Reach.{mark_passes}
use Rattle.wc_laws_grammar.specs.Sights.{Take, sight, sight_by_reach}
use Rattle.wc_model.specs.Definitions.{begins, may_occur_before}
use Rattle.wc_model.specs.Text.Shapes.{Assign, Colon, Shape, mark_of}

-- a mark of two bytes that starts with a colon ends with `=`
abbrev is_assign : List ℕ → Bool
is_assign (b ∷ c ∷ []) = not (b == 58) || (c == 61)
is_assign _ = true

-- a colon and another byte are not a mark
no_pair : (c : ℕ) → (c == 61) ≡ false → (found : Option Shape) → mark_of (58 ∷ c ∷ []) ≡ found → mark_of (58 ∷ c ∷ []) ≡ None
no_pair c other None e = e
no_pair c other (Some shape) e = absurd (true≢false (sym (mark_passes (λ p s. is_assign p) (58 ∷ c ∷ []) shape refl e) ∙ other))

-- a colon alone
pub colon_sight : (text after : List ℕ) → begins (λ b. b == 58) text ≡ true → after ≡ drop 1 text → begins (λ b. b == 61) after ≡ false → Take 1 Colon ≡ sight text
colon_sight [] after h r f = absurd (true≢false (sym h))
colon_sight (b ∷ rest) after h r f = subst (λ x. Take 1 Colon ≡ sight (x ∷ rest)) (sym (eqb-true b 58 h)) (here rest (ap (begins (λ b. b == 61)) (sym r) ∙ f))
  where
    here : (xs : List ℕ) → begins (λ b. b == 61) xs ≡ false → Take 1 Colon ≡ sight (58 ∷ xs)
    here [] e = refl
    here (c ∷ more) e = sym (ap (λ o. sight_by_reach (cond (option_map_or (λ s. may_occur_before s more) o false) 2 1) (58 ∷ c ∷ more)) (no_pair c e (mark_of (58 ∷ c ∷ [])) refl))

-- a colon before `=`
pub assign_sight : (text after : List ℕ) → begins (λ b. b == 58) text ≡ true → after ≡ drop 1 text → begins (λ b. b == 61) after ≡ true → (Take 2 Assign ≡ sight text) × (2 ≤ length text)
assign_sight [] after h r f = absurd (true≢false (sym h))
assign_sight (b ∷ []) after h r f = absurd (true≢false (sym f ∙ ap (begins (λ b. b == 61)) r))
assign_sight (b ∷ c ∷ rest) after h r f =
    let second : c ≡ 61 = eqb-true c 61 (ap (begins (λ b. b == 61)) (sym r) ∙ f) in
    (subst (λ x. Take 2 Assign ≡ sight (x ∷ c ∷ rest)) (sym (eqb-true b 58 h)) (subst (λ y. Take 2 Assign ≡ sight (58 ∷ y ∷ rest)) (sym second) refl), omega arith)
