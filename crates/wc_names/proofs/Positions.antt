-- Where the first item that passes a test is.
use Rattle.wc_model.proofs.Common.{◌≡◌, ℕ, ◌+◌, ◌<◌, Bool, true, false, List, [], ◌∷◌, ◌++◌, Option, Some, None, cond, length, option_map, refl, ap, ◌∙◌, arith, position_from}

-- the first of two that is there
abbrev pub or_else : Option ℕ → Option ℕ → Option ℕ
or_else (Some n) other = Some n
or_else None other = other

further_by : (i j : ℕ) (b : Bool) (more less : Option ℕ) → more ≡ option_map (λ n. i + n) less → cond b (Some (i + j)) more ≡ option_map (λ n. i + n) (cond b (Some j) less)
further_by i j true more less e = refl
further_by i j false more less e = e

pub position_further : {X : Type 0} (p : X → Bool) (i j : ℕ) (xs : List X) → position_from p (i + j) xs ≡ option_map (λ n. i + n) (position_from p j xs)
position_further p i j [] = refl
position_further p i j (x ∷ xs) =
    let e : i + j + 1 ≡ i + (j + 1) = omega arith in
    further_by i j (p x) (position_from p (i + j + 1) xs) (position_from p (j + 1) xs) (ap (λ n. position_from p n xs) e ∙ position_further p i (j + 1) xs)

-- from a number on, and from 0
pub position_on : {X : Type 0} (p : X → Bool) (i : ℕ) (xs : List X) → position_from p i xs ≡ option_map (λ n. i + n) (position_from p 0 xs)
position_on p i xs = ap (λ n. position_from p n xs) (let e : i ≡ i + 0 = omega arith in e) ∙ position_further p i 0 xs

append_by : (i j : ℕ) (b : Bool) (more less rest : Option ℕ) → more ≡ or_else less rest → cond b (Some i) more ≡ or_else (cond b (Some i) less) rest
append_by i j true more less rest e = refl
append_by i j false more less rest e = e

pub position_append : {X : Type 0} (p : X → Bool) (i : ℕ) (xs ys : List X) → position_from p i (xs ++ ys) ≡ or_else (position_from p i xs) (position_from p (i + length xs) ys)
position_append p i [] ys = ap (λ n. position_from p n ys) (let e : i ≡ i + 0 = omega arith in e)
position_append p i (x ∷ xs) ys =
    append_by i 0 (p x) (position_from p (i + 1) (xs ++ ys)) (position_from p (i + 1) xs) (position_from p (i + length (x ∷ xs)) ys)
    (position_append p (i + 1) xs ys ∙ ap (λ n. or_else (position_from p (i + 1) xs) (position_from p n ys)) (let e : i + 1 + length xs ≡ i + length (x ∷ xs) = omega arith in e))

pub position_none : {X : Type 0} (i : ℕ) (xs : List X) → position_from (λ x. false) i xs ≡ None
position_none i [] = refl
position_none i (x ∷ xs) = position_none (i + 1) xs

pub position_alike : {X : Type 0} (p q : X → Bool) (i : ℕ) (xs : List X) → ((x : X) → p x ≡ q x) → position_from p i xs ≡ position_from q i xs
position_alike p q i [] same = refl
position_alike p q i (x ∷ xs) same = λ k. cond (same x k) (Some i) (position_alike p q (i + 1) xs same k)

-- what is found is within the list
pub position_within : {X : Type 0} (p : X → Bool) (i : ℕ) (xs : List X) (n : ℕ) → position_from p i xs ≡ Some n → n < i + length xs
position_within p i [] n e = cc
position_within p i (x ∷ xs) n e = step (p x) (position_from p (i + 1) xs) e (position_within p (i + 1) xs n)
  where
    step : (b : Bool) (more : Option ℕ) → cond b (Some i) more ≡ Some n → (more ≡ Some n → n < i + 1 + length xs) → n < i + length (x ∷ xs)
    step true more q h = let m : i ≡ n = cc in omega (arith, m)
    step false more q h = let l = h q in omega (arith, l)

-- a number after others, if there is space
pub after_is : (first : ℕ) (inner result at : Option ℕ) → ((n : ℕ) → inner ≡ Some n → first + n < 65536 → result ≡ Some (first + n)) → (inner ≡ None → result ≡ None) → inner ≡ at → ((n : ℕ) → at ≡ Some n → first + n < 65536) →
    result ≡ option_map (λ n. first + n) at
after_is first inner result None some none e capacity = none e
after_is first inner result (Some n) some none e capacity = some n e (capacity n refl)
