-- Whole numbers by their sign, and that numbers which are too wide for a word stay so.
use Rattle.std.proofs.Common.{◌≡◌, ℕ, zero, suc, ◌+◌, ◌*◌, ◌^◌, ◌<◌, ◌≤◌, Bool, true, false, cond, not, List, [], ◌∷◌, length, get_or, filter, Option, Some, None, pos, negsuc, neg_ℤ, option_map, refl, sym, ap, ◌∙◌, arith, le_refl, ⊎_elim, drop, ℤ}
use Rattle.wc_model.proofs.Common.{then_some, digit_value, digits_value_after, le-ltb, lt-ltb, cases_lt, cond-true, not_from_false, ne_eqb, cond-false}
use Rattle.std.specs.Option.{option_and_then}
use Rattle.wc_lexer.specs.Numbers.{within_64_bits}
use Rattle.wc_model.specs.Definitions.{is_underscore, begins, is_minus, is_plus, value_of_digits, digits_of, within_32_bits, unsigned_of, whole_number_of, written_value}

-- a number times a base is no smaller
pub times : (base n : ℕ) → 1 ≤ base → n ≤ n * base
times base n h = grind arith

-- digits after a number make it no smaller
pub grows : (base n : ℕ) (ds : List ℕ) → 1 ≤ base → n ≤ digits_value_after base n ds
grows base n [] h = le_refl n
grows base n (d ∷ ds) h =
    let here = times base n h in
    let more = grows base (n * base + digit_value d) ds h in
    omega arith

-- what is too wide has no 64 bits
pub wide : (n : ℕ) → 2 ^ 64 ≤ n → within_64_bits n ≡ None
wide n h = ap (λ v. then_some v n) (le-ltb n (2 ^ 64) h)

-- what is narrow has 64 bits
pub narrow : (n : ℕ) → n < 2 ^ 64 → within_64_bits n ≡ Some n
narrow n h = ap (λ v. then_some v n) (lt-ltb n (2 ^ 64) h)

-- what has no 64 bits is too wide
pub from_wide : (n : ℕ) → None ≡ within_64_bits n → 2 ^ 64 ≤ n
from_wide n h = ⊎_elim (λ less. let e = narrow n less in cc) (λ more. more) (cases_lt n (2 ^ 64))

-- a number is too wide if its first digits are
pub wide_digits : (base n : ℕ) (ds : List ℕ) → 1 ≤ base → None ≡ within_64_bits n → None ≡ within_64_bits (digits_value_after base n ds)
wide_digits base n ds h e =
    let more = grows base n ds h in
    let here = from_wide n e in
    sym (wide (digits_value_after base n ds) (omega arith))

-- a text whose digits are too wide from a place on
pub wide_from : (base value : ℕ) (rest text : List ℕ) → 1 ≤ base → 1 ≤ length rest → ¬ (get_or rest 0 0 ≡ 95) → digits_value_after base value (filter (λ b. not (is_underscore b)) rest) ≡ value_of_digits base text → None ≡ within_64_bits (value * base + digit_value (get_or rest 0 0)) → None ≡ within_64_bits (value_of_digits base text)
wide_from base value [] text h long other all e = absurd (omega arith)
wide_from base value (b ∷ rest) text h long other all e =
    let more = wide_digits base (value * base + digit_value b) (filter (λ d. not (is_underscore d)) rest) h e in
    let here : filter (λ d. not (is_underscore d)) (b ∷ rest) ≡ b ∷ filter (λ d. not (is_underscore d)) rest = cond-true (not (is_underscore b)) _ _ (not_from_false _ (ne_eqb b 95 other)) in
    more ∙ ap within_64_bits (sym (ap (digits_value_after base value) here) ∙ all)

-- what is too wide for 64 bits is too wide for 32
pub wide_has_no_32_bits : (negative : Bool) (n : ℕ) → 2 ^ 64 ≤ n → within_32_bits (cond negative (neg_ℤ (pos n)) (pos n)) ≡ None
wide_has_no_32_bits false n h = ap (λ v. then_some v (pos n)) (le-ltb n (2 ^ 31) (omega arith))
wide_has_no_32_bits true zero h = absurd (omega arith)
wide_has_no_32_bits true (suc n) h = ap (λ v. then_some v (negsuc n)) (le-ltb n (2 ^ 31) (omega arith))

-- what is too wide for 32 bits has none
pub wide_for_32_bits : (negative : Bool) (n : ℕ) → 2 ^ 31 < n → within_32_bits (cond negative (neg_ℤ (pos n)) (pos n)) ≡ None
wide_for_32_bits false n h = ap (λ v. then_some v (pos n)) (le-ltb n (2 ^ 31) (omega arith))
wide_for_32_bits true zero h = absurd (omega arith)
wide_for_32_bits true (suc n) h = ap (λ v. then_some v (negsuc n)) (le-ltb n (2 ^ 31) (omega arith))

-- a size without 64 bits has no 32
pub narrowed_size : (negative : Bool) (size : Option ℕ) → option_and_then (λ n. within_32_bits (cond negative (neg_ℤ (pos n)) (pos n))) (option_and_then within_64_bits size) ≡ option_and_then within_32_bits (option_map (λ n. cond negative (neg_ℤ (pos n)) (pos n)) size)
narrowed_size negative None = refl
narrowed_size negative (Some n) =
    ⊎_elim
    (λ less. ap (option_and_then (λ m. within_32_bits (cond negative (neg_ℤ (pos m)) (pos m)))) (narrow n less))
    (λ more. ap (option_and_then (λ m. within_32_bits (cond negative (neg_ℤ (pos m)) (pos m)))) (wide n more) ∙ sym (wide_has_no_32_bits negative n more))
    (cases_lt n (2 ^ 64))

-- a number by its sign
pub by_sign : (text : List ℕ) → written_value text ≡ cond (begins is_minus text) (option_map (λ n. neg_ℤ (pos n)) (digits_of 10 (drop 1 text))) (cond (begins is_plus text) (option_map pos (digits_of 10 (drop 1 text))) (option_map pos (unsigned_of text)))
by_sign [] = refl
by_sign (b ∷ rest) = refl

-- the number of that sign, narrowed
abbrev pub narrowed_to : (negative : Bool) → Option ℕ → Option ℤ
narrowed_to negative size = option_and_then (λ n. within_32_bits (cond negative (neg_ℤ (pos n)) (pos n))) size

-- a number with a minus
pub whole_minus : (text number : List ℕ) (size : Option ℕ) (answer : Option ℤ) → begins is_minus text ≡ true → number ≡ drop 1 text → size ≡ option_and_then within_64_bits (digits_of 10 number) → answer ≡ narrowed_to true size → answer ≡ whole_number_of text
whole_minus text number size answer minus rest sized narrowed =
    narrowed ∙ ap (narrowed_to true) (sized ∙ ap (λ l. option_and_then within_64_bits (digits_of 10 l)) rest) ∙ narrowed_size true (digits_of 10 (drop 1 text)) ∙ ap (option_and_then within_32_bits) (sym (by_sign text ∙ cond-true _ _ _ minus))

-- a number with a plus
pub whole_plus : (text number : List ℕ) (size : Option ℕ) (answer : Option ℤ) → begins is_minus text ≡ false → begins is_plus text ≡ true → number ≡ drop 1 text → size ≡ option_and_then within_64_bits (digits_of 10 number) → answer ≡ narrowed_to false size → answer ≡ whole_number_of text
whole_plus text number size answer minus plus rest sized narrowed =
    narrowed ∙ ap (narrowed_to false) (sized ∙ ap (λ l. option_and_then within_64_bits (digits_of 10 l)) rest) ∙ narrowed_size false (digits_of 10 (drop 1 text)) ∙ ap (option_and_then within_32_bits) (sym (by_sign text ∙ cond-false _ _ _ minus ∙ cond-true _ _ _ plus))

-- a number without a sign
pub whole_unsigned : (text : List ℕ) (size : Option ℕ) (answer : Option ℤ) → begins is_minus text ≡ false → begins is_plus text ≡ false → size ≡ option_and_then within_64_bits (unsigned_of text) → answer ≡ narrowed_to false size → answer ≡ whole_number_of text
whole_unsigned text size answer minus plus sized narrowed =
    narrowed ∙ ap (narrowed_to false) sized ∙ narrowed_size false (unsigned_of text) ∙ ap (option_and_then within_32_bits) (sym (by_sign text ∙ cond-false _ _ _ minus ∙ cond-false _ _ _ plus))
