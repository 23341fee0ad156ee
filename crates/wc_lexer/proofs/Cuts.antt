-- A list cut at the first element that passes.
use Rattle.std.proofs.Common.{◌≡◌, ℕ, suc, ◌+◌, ◌-◌, ◌<◌, ◌≤◌, Bool, true, false, cond, not, ◌||◌, List, [], ◌∷◌, length, drop, take, refl, ap, ◌∙◌, arith, length-drop}
use Rattle.wc_model.proofs.Common.{take_all, drop-drop, after_first, before_first, list_any, position_or_len}

-- if the place is after the list, no element passes
pub none_passes : (p : ℕ → Bool) (xs : List ℕ) → length xs ≤ position_or_len p xs → list_any p xs ≡ false
none_passes p [] h = refl
none_passes p (x ∷ xs) h =
    elim (p x) as (λ v. suc (length xs) ≤ cond (not v) (1 + position_or_len p xs) 0 → (v || list_any p xs) ≡ false)
    [ true ↦ λ k. absurd (omega arith) | false ↦ λ k. none_passes p xs (omega arith) ] h

-- if the place is within the list, an element passes
pub some_passes : (p : ℕ → Bool) (xs : List ℕ) → position_or_len p xs < length xs → list_any p xs ≡ true
some_passes p [] h = absurd (omega arith)
some_passes p (x ∷ xs) h =
    elim (p x) as (λ v. cond (not v) (1 + position_or_len p xs) 0 < suc (length xs) → (v || list_any p xs) ≡ true)
    [ true ↦ λ k. refl | false ↦ λ k. some_passes p xs (omega arith) ] h

-- nothing is left from the place on
pub cut_none : (p : ℕ → Bool) (xs rest : List ℕ) → rest ≡ drop (position_or_len p xs) xs → length rest < 1 → list_any p xs ≡ false
cut_none p xs rest e short = none_passes p xs (omega (arith, ap length e, length-drop (position_or_len p xs) xs))

-- something is left from the place on
pub cut_some : (p : ℕ → Bool) (xs before rest : List ℕ) → before ≡ take (position_or_len p xs) xs → rest ≡ drop (position_or_len p xs) xs → 1 ≤ length rest → (list_any p xs ≡ true) × (before ≡ before_first p xs) × (take (length rest - 1) (drop 1 rest) ≡ after_first p xs)
cut_some p xs before rest prefix e long =
    (some_passes p xs (omega (arith, ap length e, length-drop (position_or_len p xs) xs)), prefix, take_all (length rest - 1) (drop 1 rest) (omega (arith, length-drop 1 rest)) ∙ ap (drop 1) e ∙ drop-drop 1 (position_or_len p xs) xs)
