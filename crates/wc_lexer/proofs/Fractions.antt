-- Digits after a point.
use Rattle.std.proofs.Common.{◌≡◌, ℕ, ◌-◌, ◌*◌, ◌^◌, ◌≤◌, Bool, true, not, ◌&&◌, List, [], ◌∷◌, length, filter, Option, Some, None, nat_le, refl, sym, ap, ◌∙◌, ⊎_elim, arith}
use Rattle.wc_model.proofs.Common.{and_from, and_parts, cases_lt, cond-true, le-leb, leb-true, not_from_false, ne_eqb, one-le-pow, then_some, is_ascii_digit, list_all, digits_value}
use Rattle.std.specs.Option.{option_and_then}
use Rattle.wc_lexer.proofs.Widths.{from_wide, narrow, wide}
use Rattle.wc_lexer.specs.Numbers.{within_64_bits}
use Rattle.wc_model.specs.Definitions.{is_underscore, value_of_digits}

-- digits hold no underscore
pub without_underscores : (text : List ℕ) → list_all is_ascii_digit text ≡ true → filter (λ b. not (is_underscore b)) text ≡ text
without_underscores [] h = refl
without_underscores (b ∷ rest) h =
    let both = and_parts (is_ascii_digit b) _ h in
    let range = and_parts (nat_le 48 b) (nat_le b 57) both.0 in
    let high = leb-true b 57 range.1 in
    let other : not (is_underscore b) ≡ true = not_from_false _ (ne_eqb b 95 (λ e. omega (arith, e))) in
    cond-true (not (is_underscore b)) _ _ other ∙ ap (λ l. b ∷ l) (without_underscores rest both.1)

-- the number that has 64 bits is the number
pub is_narrow : (n v : ℕ) → Some v ≡ within_64_bits n → v ≡ n
is_narrow n v e = ⊎_elim (λ less. let f = narrow n less in cc) (λ more. let f = wide n more in absurd (cc)) (cases_lt n (2 ^ 64))

-- what is too wide stays so
pub wide_product : (n times : ℕ) → 1 ≤ times → None ≡ within_64_bits n → None ≡ within_64_bits (n * times)
wide_product n times h e =
    let here = from_wide n e in
    let grown : n ≤ n * times = grind arith in
    sym (wide (n * times) (omega arith))

-- a form that holds
pub formed : (format : Bool) (n : ℕ) → format ≡ true → within_64_bits n ≡ option_and_then within_64_bits (then_some format n)
formed format n h = sym (ap (λ v. option_and_then within_64_bits (then_some v n)) h)

-- the form of a fraction
pub fraction_format : (text : List ℕ) → 1 ≤ length text → length text ≤ 9 → list_all is_ascii_digit text ≡ true → (nat_le 1 (length text) && nat_le (length text) 9 && list_all is_ascii_digit text) ≡ true
fraction_format text low high all = and_from _ _ (and_from _ _ (le-leb 1 (length text) low) (le-leb (length text) 9 high)) all

-- a fraction
pub fraction_some : (text : List ℕ) (value unit : ℕ) (answer : Option ℕ) → 1 ≤ length text → length text ≤ 9 → list_all is_ascii_digit text ≡ true → Some value ≡ within_64_bits (value_of_digits 10 text) → unit ≡ 10 ^ (9 - length text) → answer ≡ within_64_bits (value * unit) → answer ≡ option_and_then within_64_bits (then_some (nat_le 1 (length text) && nat_le (length text) 9 && list_all is_ascii_digit text) (digits_value 10 text * 10 ^ (9 - length text)))
fraction_some text value unit answer low high all valued sized e =
    let number : value ≡ digits_value 10 text = is_narrow _ value valued ∙ ap (digits_value 10) (without_underscores text all) in
    e ∙ ap (λ v. within_64_bits (v * unit)) number ∙ ap (λ u. within_64_bits (digits_value 10 text * u)) sized ∙ formed _ _ (fraction_format text low high all)

-- a power of ten
pub ten_power : (n : ℕ) → 1 ≤ 10 ^ n
ten_power n = one-le-pow n 10 (omega arith)

-- a fraction that is too wide
pub fraction_none : (text : List ℕ) → 1 ≤ length text → length text ≤ 9 → list_all is_ascii_digit text ≡ true → None ≡ within_64_bits (value_of_digits 10 text) → None ≡ option_and_then within_64_bits (then_some (nat_le 1 (length text) && nat_le (length text) 9 && list_all is_ascii_digit text) (digits_value 10 text * 10 ^ (9 - length text)))
fraction_none text low high all valued =
    wide_product (digits_value 10 text) (10 ^ (9 - length text)) (ten_power (9 - length text)) (valued ∙ ap (λ l. within_64_bits (digits_value 10 l)) (without_underscores text all)) ∙ formed _ _ (fraction_format text low high all)
