-- The parts of an answer, and numbers written from their last digit on.
use Rattle.wc_model.proofs.Common.{◌≡◌, ℕ, List, [], ◌∷◌, ◌++◌, length, get_or, refl, ap, sym, ◌∙◌, append_assoc, arith, zero, suc, ◌+◌, ◌-◌, ◌/◌, ◌%◌, ◌^◌, ◌≤◌, decimal_step, decimal_digit, ints}
use Rattle.std.specs.Prelude.{ℤ, ◌<◌, unsigned_abs, Option, Some, None, IfSome, pos, negsuc, ◌<ℤ◌, decimal}
use Rattle.wc_laws_instrument.proofs.Answers.{IsShort}
use Rattle.wc_model.specs.Instrument.Answers.{last_digits, minus_of}

-- a list of three
pub three_of : (xs : List ℕ) → length xs ≡ 3 → (get_or xs 0 0 ∷ get_or xs 1 0 ∷ get_or xs 2 0 ∷ []) ≡ xs
three_of [] h = absurd (omega arith)
three_of (a ∷ []) h = absurd (omega arith)
three_of (a ∷ b ∷ []) h = absurd (omega arith)
three_of (a ∷ b ∷ c ∷ []) h = refl
three_of (a ∷ b ∷ c ∷ d ∷ xs) h = absurd (omega arith)

-- the parts joined
pub parts_joined : (s m o x y z : ℕ) (w status mode motion weight unit : List ℕ) →
    (s ∷ []) ≡ status → (m ∷ []) ≡ mode → (o ∷ []) ≡ motion → w ≡ weight → (x ∷ y ∷ z ∷ []) ≡ unit →
    (10 ∷ s ∷ 49 ∷ m ∷ o ∷ 32 ∷ (w ++ (x ∷ y ∷ z ∷ 13 ∷ []))) ≡ (10 ∷ (status ++ (49 ∷ []) ++ mode ++ motion ++ (32 ∷ []) ++ weight ++ unit ++ (13 ∷ [])))
parts_joined s m o x y z w status mode motion weight unit a b c d e =
    ap (λ t. 10 ∷ s ∷ 49 ∷ m ∷ o ∷ 32 ∷ t) (sym (append_assoc w (x ∷ y ∷ z ∷ []) (13 ∷ [])))
    ∙ λ i. 10 ∷ (a i ++ (49 ∷ []) ++ b i ++ c i ++ (32 ∷ []) ++ d i ++ e i ++ (13 ∷ []))

-- a short weight, if there is one
pub short_where_some : (weight : Option ℤ) → IsShort weight → IfSome weight (λ value. unsigned_abs value < 10000000)
short_where_some None h = h
short_where_some (Some value) h = h

-- a number of several digits: its last, after the others
pub more_digits : (n : ℕ) (text : List ℕ) → 10 ≤ n → n < 2 ^ 64 → decimal (n / 10) ++ ((48 + n % 10) ∷ text) ≡ decimal n ++ text
more_digits n text h l =
    sym (append_assoc (decimal (n / 10)) ((48 + n % 10) ∷ []) text) ∙ ap (λ t. t ++ text) (sym (decimal_step n h l))

-- a number of one digit
pub one_digit : (n : ℕ) (text : List ℕ) → n < 10 → ((48 + n) ∷ text) ≡ decimal n ++ text
one_digit n text h = ap (λ t. t ++ text) (sym (decimal_digit n h))

-- one more of the last digits of a number
pub one_more_digit : (count number : ℕ) (text : List ℕ) → 0 < count
    → last_digits (count - 1) (number / 10) ++ ((48 + number % 10) ∷ text) ≡ last_digits count number ++ text
one_more_digit zero number text h = absurd (omega (arith, h))
one_more_digit (suc count) number text h =
    let before : suc count - 1 ≡ count = omega (arith) in
    ap (λ n. last_digits n (number / 10) ++ ((48 + number % 10) ∷ text)) before
    ∙ sym (append_assoc (last_digits count (number / 10)) ((48 + number % 10) ∷ []) text)

-- a minus is one byte
pub minus_below_zero : (value : ℤ) → value <ℤ pos 0 → length (minus_of value) ≡ 1
minus_below_zero (pos n) h = absurd (omega (arith, ints))
minus_below_zero (negsuc n) h = refl
