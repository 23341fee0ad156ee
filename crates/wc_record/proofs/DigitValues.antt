-- Decimal digits as numbers.
use Rattle.wc_model.proofs.Common.{◌≡◌, ◌≤◌, ◌<◌, ◌+◌, ◌*◌, ◌-◌, ◌^◌, get_or, ℕ, zero, suc, take, drop, sym, subst, add-zero, add-suc, Bool, true, List, [], ◌∷◌, length, map, arith, is_ascii_digit, number_from_digits_after, list_all, pow-suc, take-length}

-- the values of digits
abbrev pub values : List ℕ → List ℕ
values text = map (λ digit. digit - 48) text

-- a digit's value is below 10
digit_below : (c : ℕ) → is_ascii_digit c ≡ true → c - 48 < 10
digit_below c e = grind (arith)

-- a power of ten is no more than a higher one
ten_more : (m k : ℕ) → 10 ^ m ≤ 10 ^ (m + k)
ten_more m zero = rw add-zero (omega arith)
ten_more m (suc k) = rw (add-suc, pow-suc) (omega (arith, ten_more m k))

-- powers of ten rise
pub ten_rises : (m n : ℕ) → m ≤ n → 10 ^ m ≤ 10 ^ n
ten_rises m n h = let e : m + (n - m) ≡ n = omega arith in subst (λ k. 10 ^ m ≤ 10 ^ k) e (ten_more m (n - m))

-- a digit more, of a number of n digits
pub digit_more : (value digit size : ℕ) → value < 10 ^ size → digit < 10 → value * 10 + digit < 10 ^ (size + 1)
digit_more value digit size below small = rw (add-suc, add-zero, pow-suc) (omega (arith, below, small))

-- what follows the first byte
abbrev pub following_first : List ℕ → List ℕ
following_first text = take (length text - 1) (drop 1 text)

-- that of a text that is not empty
after_is : (c : ℕ) (text : List ℕ) → following_first (c ∷ text) ≡ text
after_is c text = let size : suc (length text) - 1 ≡ length text = omega arith in rw size (take-length text)

-- one digit more is one digit
pub digits_after : (rest : List ℕ) (all : Bool) → 1 ≤ length rest → true ≡ is_ascii_digit (get_or rest 0 0) → list_all is_ascii_digit rest ≡ all → list_all is_ascii_digit (following_first rest) ≡ all
digits_after [] all h digit e = absurd (omega arith)
digits_after (c ∷ rest) all h digit e = rw (after_is c rest) (rw (sym digit) at e)

-- it goes on to the whole
pub whole_after : (value digit whole : ℕ) (rest : List ℕ) → 1 ≤ length rest → digit ≡ get_or rest 0 0 - 48 → number_from_digits_after 10 value (values rest) ≡ whole → number_from_digits_after 10 (value * 10 + digit) (values (following_first rest)) ≡ whole
whole_after value digit whole [] h is e = absurd (omega arith)
whole_after value digit whole (c ∷ rest) h is e = rw (after_is c rest, is) e

-- how much is after
after_size : (rest : List ℕ) → 1 ≤ length rest → length (following_first rest) + 1 ≡ length rest
after_size [] h = absurd (omega arith)
after_size (c ∷ rest) h = rw (after_is c rest) (omega arith)

-- less is left
pub shorter_after : (rest : List ℕ) (most : ℕ) → 1 ≤ length rest → length rest ≤ most → length (following_first rest) ≤ most
shorter_after rest most h few = omega (arith, after_size rest h)

-- it has one digit more at most
pub few_after : (value digit most : ℕ) (rest : List ℕ) → 1 ≤ length rest → length rest ≤ most → true ≡ is_ascii_digit (get_or rest 0 0) → digit ≡ get_or rest 0 0 - 48 → value < 10 ^ (most - length rest)
    → value * 10 + digit < 10 ^ (most - length (following_first rest))
few_after value digit most rest h few is_digit is below =
    let size : most - length (following_first rest) ≡ (most - length rest) + 1 = omega (arith, after_size rest h) in
    let small : digit < 10 = rw is (digit_below (get_or rest 0 0) (sym is_digit)) in
    rw size (digit_more value digit (most - length rest) below small)
