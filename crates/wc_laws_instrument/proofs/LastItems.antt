-- The last items of a list, and what one more does to them.
use Rattle.wc_model.proofs.Common.{◌≡◌, ℕ, zero, suc, ◌+◌, ◌-◌, ◌<◌, ◌≤◌, inl, inr, List, [], ◌∷◌, ◌++◌, length, drop, refl, ap, sym, ◌∙◌, arith, cases_lt, le-leb, lt-leb, last_or}
use Rattle.std.proofs.lemmas.List.{drop-append-le, drop-drop, length-drop, length-append}
use Rattle.std.specs.Prelude.{ℤ, Option, Some, None, nat_le}
use Rattle.wc_model.specs.Instrument.WeighingHistories.{last_items}

-- what is left after two cuts
two_cuts : (n l : ℕ) → l - n + (l - (l - n) + 1 - n) ≡ l + 1 - n
two_cuts n l = omega arith

-- the last n of the last n and one more
pub one_more : (n : ℕ) (xs : List ℤ) (x : ℤ) → last_items n (last_items n xs ++ x ∷ []) ≡ last_items n (xs ++ x ∷ [])
one_more n xs x =
    let k : ℕ = length xs - n in
    let joined : drop k xs ++ x ∷ [] ≡ drop k (xs ++ x ∷ []) = sym (drop-append-le k xs (x ∷ []) (omega arith)) in
    let cut : length (drop k xs ++ x ∷ []) ≡ length xs - k + 1 = length-append (drop k xs) (x ∷ []) ∙ ap (λ m. m + 1) (length-drop k xs) in
    let whole : length (xs ++ x ∷ []) ≡ length xs + 1 = length-append xs (x ∷ []) in
    ap (λ m. drop (m - n) (drop k xs ++ x ∷ [])) cut ∙ ap (drop (length xs - k + 1 - n)) joined
    ∙ drop-drop (length xs - k + 1 - n) k (xs ++ x ∷ []) ∙ ap (λ m. drop m (xs ++ x ∷ [])) (two_cuts n (length xs) ∙ ap (λ m. m - n) (sym whole))

-- the last item, if one more has come
pub last_of : (o : Option ℤ) (xs : List ℤ) (x : ℤ) → last_or o (xs ++ x ∷ []) ≡ Some x
last_of o [] x = refl
last_of o (y ∷ ys) x = last_of (Some y) ys x

-- the last of a list that is not empty, whatever else there might be
last_any : (o u : Option ℤ) (xs : List ℤ) → 0 < length xs → last_or o xs ≡ last_or u xs
last_any o u [] h = absurd (omega arith)
last_any o u (x ∷ xs) h = refl

-- the last is among the last items
last_of_rest : (o : Option ℤ) (k : ℕ) (xs : List ℤ) → k < length xs → last_or o (drop k xs) ≡ last_or o xs
last_of_rest o zero xs h = refl
last_of_rest o (suc k) [] h = absurd (omega arith)
last_of_rest o (suc k) (x ∷ xs) h =
    last_any o (Some x) (drop k xs) (omega (arith, length-drop k xs)) ∙ last_of_rest (Some x) k xs (omega arith)

last_of_none : (k : ℕ) → last_or {A = ℤ} None (drop k []) ≡ None
last_of_none zero = refl
last_of_none (suc k) = refl

pub last_of_window : (n : ℕ) (xs : List ℤ) → 0 < n → last_or None (last_items n xs) ≡ last_or None xs
last_of_window n [] h = last_of_none (length {A = ℤ} [] - n)
last_of_window n (x ∷ xs) h = last_of_rest None (length (x ∷ xs) - n) (x ∷ xs) (omega arith)

-- two numbers on the same side of a third
same_side : (n a b : ℕ) → (n ≤ a → n ≤ b) → (n ≤ b → n ≤ a) → nat_le n a ≡ nat_le n b
same_side n a b to back = elim (cases_lt a n) [
  | inl less ↦ lt-leb n a less ∙ sym (lt-leb n b (elim (cases_lt b n) [ inl l ↦ l | inr m ↦ absurd (omega (arith, back m)) ]))
  | inr more ↦ le-leb n a more ∙ sym (le-leb n b (to more))
]

-- whether n items have come is seen from the last n
pub full_window : (n : ℕ) (xs : List ℤ) → nat_le n (length xs) ≡ nat_le n (length (last_items n xs))
full_window n xs =
    let few : length (last_items n xs) ≡ length xs - (length xs - n) = length-drop (length xs - n) xs in
    same_side n (length xs) (length (last_items n xs)) (λ h. omega (arith, few)) (λ h. omega (arith, few))
