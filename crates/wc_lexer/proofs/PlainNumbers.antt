-- A number of digits alone, read in one pass.
use Rattle.std.proofs.Common.{◌≡◌, ℕ, ◌+◌, ◌-◌, ◌*◌, ◌<◌, ◌≤◌, Bool, true, false, cond, not, ◌&&◌, ◌||◌, List, [], ◌∷◌, drop, filter, IfSome, length, slice_index, subst, take, take_all, Option, Some, None, refl, sym, ap, ◌∙◌, one-add, arith, true≢false, ⊎_elim}
use Rattle.wc_model.proofs.Common.{and_from, and_parts, cases_lt, cond-false, cond-true, le-leb, le-ltb, lt-ltb, ltb-true, ne_eqb, or_left, or_right, length-prefix_len, digit_value, is_ascii_alphanumeric, is_ascii_digit, is_digit, is_in_range, list_all, list_any, prefix_len, digits_value, digits_value_after}
use Rattle.std.specs.Bool.{nat_lt, then_some}
use Rattle.wc_laws_grammar.proofs.Attained.{digit_goes_on}
use Rattle.wc_lexer.specs.Numbers.{IsPlain, IsUnsigned, number_prefix}
use Rattle.wc_model.specs.Definitions.{begins, is_hash, is_number_character, is_underscore, are_digits, digits_of, has_single_underscores, value_of_digits, unsigned_of}

-- ---- digits of a base

-- the byte is a digit of that base
abbrev pub is_of : ℕ → ℕ → Bool
is_of base b = is_digit b base

-- a digit is no other byte that is none
other_than : (base b c : ℕ) → is_of base c ≡ false → is_of base b ≡ true → (b ≡ c → true ≡ false)
other_than base b c none h e = sym h ∙ ap (is_of base) e ∙ none

-- no digit is an underscore
no_underscore : (base b : ℕ) → is_of base 95 ≡ false → is_of base b ≡ true → is_underscore b ≡ false
no_underscore base b none h = ne_eqb b 95 (λ e. true≢false (other_than base b 95 none h e))

-- digits hold no `#`
plain_no_hash : (base : ℕ) (xs : List ℕ) → is_of base 35 ≡ false → list_all (is_of base) xs ≡ true → list_any is_hash xs ≡ false
plain_no_hash base [] none h = refl
plain_no_hash base (b ∷ xs) none h =
    let both = and_parts (is_of base b) (list_all (is_of base) xs) h in
    ap (λ v. v || list_any is_hash xs) (ne_eqb b 35 (λ e. true≢false (other_than base b 35 none both.0 e))) ∙ plain_no_hash base xs none both.1

-- digits are digits or underscores
plain_all : (base : ℕ) (xs : List ℕ) → list_all (is_of base) xs ≡ true → list_all (λ b. is_digit b base || is_underscore b) xs ≡ true
plain_all base [] h = refl
plain_all base (b ∷ xs) h =
    let both = and_parts (is_of base b) (list_all (is_of base) xs) h in
    and_from _ _ (ap (λ v. v || is_underscore b) both.0) (plain_all base xs both.1)

-- no two underscores are in a row
plain_single : (base : ℕ) (xs : List ℕ) → is_of base 95 ≡ false → list_all (is_of base) xs ≡ true → has_single_underscores xs ≡ true
plain_single base [] none h = refl
plain_single base (b ∷ xs) none h =
    let both = and_parts (is_of base b) (list_all (is_of base) xs) h in
    and_from _ _ (ap (λ v. not v || begins (λ next. not (is_underscore next)) xs) (no_underscore base b none both.0)) (plain_single base xs none both.1)

-- without underscores they are the same
plain_filter : (base : ℕ) (xs : List ℕ) → is_of base 95 ≡ false → list_all (is_of base) xs ≡ true → filter (λ b. not (is_underscore b)) xs ≡ xs
plain_filter base [] none h = refl
plain_filter base (b ∷ xs) none h =
    let both = and_parts (is_of base b) (list_all (is_of base) xs) h in
    cond-true (not (is_underscore b)) _ _ (ap not (no_underscore base b none both.0)) ∙ ap (λ l. b ∷ l) (plain_filter base xs none both.1)

-- one digit or more are a number
digits_sized : (base : ℕ) (xs : List ℕ) → is_of base 95 ≡ false → 1 ≤ length xs → list_all (is_of base) xs ≡ true → digits_of base xs ≡ Some (digits_value base xs)
digits_sized base [] none long h = absurd (omega arith)
digits_sized base (b ∷ xs) none long h =
    let both = and_parts (is_of base b) (list_all (is_of base) xs) h in
    let format : are_digits base (b ∷ xs) ≡ true = and_from _ _ (and_from _ _ both.0 (plain_all base (b ∷ xs) h)) (plain_single base (b ∷ xs) none h) in
    ap (λ v. then_some v (value_of_digits base (b ∷ xs))) format ∙ ap (λ l. Some (digits_value base l)) (plain_filter base (b ∷ xs) none h)

-- ---- the characters of a number

-- the prefix goes on with a character of a number
prefix_goes_on : (b : ℕ) (rest : List ℕ) → is_number_character b ≡ true → number_prefix (b ∷ rest) ≡ b ∷ number_prefix rest
prefix_goes_on b rest h = ap (λ v. take (cond v (1 + prefix_len is_number_character rest) 0) (b ∷ rest)) h ∙ ap (λ n. take n (b ∷ rest)) (one-add (prefix_len is_number_character rest))

-- a byte that is worth less than 36 is a letter or a digit
worth_less : (b : ℕ) → digit_value b < 36 → is_ascii_alphanumeric b ≡ true
worth_less b h =
    ⊎_elim (λ (below : b < 48). let e : digit_value b ≡ 36 = cond-true (nat_lt b 48) _ _ (lt-ltb b 48 below) in absurd (omega (arith, e, h)))
    (λ (digit : 48 ≤ b).
    ⊎_elim (λ (below : b < 58). or_left _ _ (or_left _ _ (and_from _ _ (le-leb 48 b digit) (le-leb b 57 (omega arith)))))
    (λ (above : 58 ≤ b).
    let first = cond-false (nat_lt b 48) _ _ (le-ltb b 48 digit) ∙ cond-false (nat_lt b 58) _ _ (le-ltb b 58 above) in
    ⊎_elim (λ (below : b < 65). let e : digit_value b ≡ 36 = first ∙ cond-true (nat_lt b 65) _ _ (lt-ltb b 65 below) in absurd (omega (arith, e, h)))
    (λ (upper : 65 ≤ b).
    let second = first ∙ cond-false (nat_lt b 65) _ _ (le-ltb b 65 upper) in
    ⊎_elim (λ (below : b < 91). or_left _ _ (or_right (is_in_range 48 57 b) _ (and_from _ _ (le-leb 65 b upper) (le-leb b 90 (omega arith)))))
    (λ (over : 91 ≤ b).
    let third = second ∙ cond-false (nat_lt b 91) _ _ (le-ltb b 91 over) in
    ⊎_elim (λ (below : b < 97). let e : digit_value b ≡ 36 = third ∙ cond-true (nat_lt b 97) _ _ (lt-ltb b 97 below) in absurd (omega (arith, e, h)))
    (λ (lower : 97 ≤ b).
    let fourth = third ∙ cond-false (nat_lt b 97) _ _ (le-ltb b 97 lower) in
    ⊎_elim (λ (below : b < 123). or_right (is_in_range 48 57 b || is_in_range 65 90 b) _ (and_from _ _ (le-leb 97 b lower) (le-leb b 122 (omega arith))))
    (λ (end : 123 ≤ b). let e : digit_value b ≡ 36 = fourth ∙ cond-false (nat_lt b 123) _ _ (le-ltb b 123 end) in absurd (omega (arith, e, h)))
    (cases_lt b 123))
    (cases_lt b 97))
    (cases_lt b 91))
    (cases_lt b 65))
    (cases_lt b 58))
    (cases_lt b 48)

-- a digit is a character of a number
pub digit_is_one : (base b : ℕ) → base ≤ 36 → is_of base b ≡ true → is_number_character b ≡ true
digit_is_one base b small h =
    let less : digit_value b < base = ltb-true (digit_value b) base h in
    or_left _ _ (or_left _ _ (or_left _ _ (worth_less b (omega arith))))

-- ---- one pass

-- this many digits, which write this number, precede the rest
pub record Digits (base : ℕ) (text rest : List ℕ) (count value : ℕ) : Type 0 where
  pub within : count + length rest ≡ length text
  pub counted : count + prefix_len is_number_character rest ≡ prefix_len is_number_character text
  pub valued : digits_value_after base value (number_prefix rest) ≡ digits_value base (number_prefix text)
  pub digits : list_all (is_of base) (number_prefix rest) ≡ list_all (is_of base) (number_prefix text)

-- one digit more precedes it
digits_more : (base : ℕ) (text rest : List ℕ) (b count value next : ℕ) → base ≤ 36 → is_of base b ≡ true → next ≡ value * base + digit_value b → Digits base text (b ∷ rest) count value → Digits base text rest (count + 1) next
digits_more base text rest b count value next small h e read =
    let goes : is_number_character b ≡ true = digit_is_one base b small h in
    let prefix = prefix_goes_on b rest goes in
    record {
      within = omega (arith, read.within);
      counted = omega (arith, read.counted, ap (λ v. cond v (1 + prefix_len is_number_character rest) 0) goes);
      valued = ap (λ n. digits_value_after base n (number_prefix rest)) e ∙ (sym (ap (digits_value_after base value) prefix) ∙ read.valued);
      digits = sym (ap (λ v. v && list_all (is_of base) (number_prefix rest)) h) ∙ (sym (ap (list_all (is_of base)) prefix) ∙ read.digits);
    }

-- one step
pub digits_step : (base : ℕ) (text rest : List ℕ) (count value next : ℕ) → base ≤ 36 → 1 ≤ length rest → is_of base (slice_index rest 0) ≡ true → next ≡ value * base + digit_value (slice_index rest 0) → Digits base text rest count value → Digits base text (take (length rest - 1) (drop 1 rest)) (count + 1) next
digits_step base text [] count value next small long h e read = absurd (omega arith)
digits_step base text (b ∷ rest) count value next small long h e read =
    let whole : take (length (b ∷ rest) - 1) rest ≡ rest = take_all _ rest (omega arith) in
    subst (λ l. Digits base text l (count + 1) next) (sym whole) (digits_more base text rest b count value next small h e read)

-- ---- numbers without a sign

-- decimal digits
pub decimal_unsigned : (text : List ℕ) (count value : ℕ) → begins is_ascii_digit text ≡ true → IsPlain 10 text count value → IsUnsigned text count value
decimal_unsigned [] count value h plain = absurd (true≢false (sym h))
decimal_unsigned (b ∷ rest) count value h plain =
    let prefix = prefix_goes_on b rest (digit_goes_on b h) in
    let long : 1 ≤ length (number_prefix (b ∷ rest)) = subst (λ l. 1 ≤ length l) (sym prefix) (omega arith) in
    record {
      counted = plain.counted;
      sized = cond-false (list_any is_hash (number_prefix (b ∷ rest))) _ _ (plain_no_hash 10 (number_prefix (b ∷ rest)) refl plain.digits)
          ∙ (digits_sized 10 (number_prefix (b ∷ rest)) refl long plain.digits ∙ ap (λ v. Some v) (sym plain.valued));
    }

-- what is read of them
pub decimal_read : (text : List ℕ) (read : Option (ℕ × ℕ)) → begins is_ascii_digit text ≡ true → IfSome read (λ digits. IsPlain 10 text digits.0 digits.1) → IfSome read (λ number. IsUnsigned text number.0 number.1)
decimal_read text None h plain = tt
decimal_read text (Some digits) h plain = decimal_unsigned text digits.0 digits.1 h plain

-- hexadecimal digits after a `16#`
pub hexadecimal_unsigned : (digits : List ℕ) (count value : ℕ) → ¬ (count ≡ 0) → IsPlain 16 digits count value → IsUnsigned (49 ∷ 54 ∷ 35 ∷ digits) (count + 3) value
hexadecimal_unsigned digits count value some plain =
    let prefix : number_prefix (49 ∷ 54 ∷ 35 ∷ digits) ≡ 49 ∷ 54 ∷ 35 ∷ number_prefix digits =
    prefix_goes_on 49 (54 ∷ 35 ∷ digits) refl ∙ ap (λ l. 49 ∷ l) (prefix_goes_on 54 (35 ∷ digits) refl ∙ ap (λ l. 54 ∷ l) (prefix_goes_on 35 digits refl)) in
    let long : 1 ≤ length (number_prefix digits) = omega (arith, length-prefix_len is_number_character digits, plain.counted) in
    let based : unsigned_of (49 ∷ 54 ∷ 35 ∷ number_prefix digits) ≡ digits_of 16 (number_prefix digits) = refl in
    record {
      counted = omega (arith, plain.counted);
      sized = ap unsigned_of prefix ∙ (based ∙ (digits_sized 16 (number_prefix digits) refl long plain.digits ∙ ap (λ v. Some v) (sym plain.valued)));
    }
