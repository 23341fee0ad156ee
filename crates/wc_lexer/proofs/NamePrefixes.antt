-- The prefix of a text that may be an identifier, byte by byte.
use Rattle.std.proofs.Common.{◌≡◌, ℕ, ◌+◌, Bool, true, false, cond, not, ◌&&◌, ◌||◌, List, [], ◌∷◌, ◌-◌, ◌≤◌, drop, length, slice_index, subst, take, take_all, refl, sym, ap, ◌∙◌, one-add, arith, true≢false}
use Rattle.wc_model.proofs.Common.{ne_eqb, is_ascii_alphabetic, is_ascii_alphanumeric, is_ascii_digit, is_in_range, prefix_len}
use Rattle.wc_model.specs.Definitions.{begins, is_identifier_character, is_underscore, has_single_underscores}

-- the characters of an identifier at the start
abbrev pub name_prefix : List ℕ → List ℕ
name_prefix text = take (prefix_len is_identifier_character text) text

-- a letter or a digit is not an underscore
plain_is_other : (b : ℕ) → is_ascii_alphanumeric b ≡ true → is_underscore b ≡ false
plain_is_other b h = ne_eqb b 95 (λ e. true≢false (sym h ∙ ap is_ascii_alphanumeric e))

-- this many characters, checked so, precede the rest
pub record Passed (text rest : List ℕ) (count : ℕ) (single : Bool) : Type 0 where
  pub counted : count + prefix_len is_identifier_character rest ≡ prefix_len is_identifier_character text
  pub validated : (single && has_single_underscores (name_prefix rest)) ≡ has_single_underscores (name_prefix text)

-- the prefix goes on with a character of an identifier
prefix_goes_on : (b : ℕ) (rest : List ℕ) → is_identifier_character b ≡ true → name_prefix (b ∷ rest) ≡ b ∷ name_prefix rest
prefix_goes_on b rest h = ap (λ v. take (cond v (1 + prefix_len is_identifier_character rest) 0) (b ∷ rest)) h ∙ ap (λ n. take n (b ∷ rest)) (one-add (prefix_len is_identifier_character rest))

-- the prefix of what follows starts with a letter or a digit, or not
prefix_starts_plain : (rest : List ℕ) → begins (λ b. not (is_underscore b)) (name_prefix rest) ≡ begins is_ascii_alphanumeric rest
prefix_starts_plain [] = refl
prefix_starts_plain (b ∷ rest) = go (is_ascii_alphanumeric b) (is_underscore b) refl refl
  where
    go : (plain underscore : Bool) → is_ascii_alphanumeric b ≡ plain → is_underscore b ≡ underscore → begins (λ b. not (is_underscore b)) (name_prefix (b ∷ rest)) ≡ is_ascii_alphanumeric b
    go true underscore p u = ap (begins (λ b. not (is_underscore b))) (prefix_goes_on b rest (ap (λ v. v || is_underscore b) p)) ∙ ap not (plain_is_other b p) ∙ sym p
    go false true p u = ap (begins (λ b. not (is_underscore b))) (prefix_goes_on b rest (ap (λ v. is_ascii_alphanumeric b || v) u ∙ ap (λ v. v || true) p)) ∙ ap not u ∙ sym p
    go false false p u = ap (λ v. begins (λ b. not (is_underscore b)) (take (cond v (1 + prefix_len is_identifier_character rest) 0) (b ∷ rest))) (ap (λ v. v || is_underscore b) p ∙ u) ∙ sym p

-- one byte more
validated_more : (single : Bool) (b : ℕ) (rest : List ℕ) → is_identifier_character b ≡ true → ((single && not (is_underscore b && not (begins is_ascii_alphanumeric rest))) && has_single_underscores (name_prefix rest)) ≡ (single && has_single_underscores (name_prefix (b ∷ rest)))
validated_more single b rest h =
    by_cases single (is_underscore b) (begins is_ascii_alphanumeric rest) (has_single_underscores (name_prefix rest))
    ∙ ap (λ v. single && ((not (is_underscore b) || v) && has_single_underscores (name_prefix rest))) (sym (prefix_starts_plain rest))
    ∙ ap (λ l. single && has_single_underscores l) (sym (prefix_goes_on b rest h))
  where
    by_cases : (s u n t : Bool) → ((s && not (u && not n)) && t) ≡ (s && ((not u || n) && t))
    by_cases true true true t = refl
    by_cases another third fourth t = refl

-- one character more is passed
pub passed_more : (text rest : List ℕ) (b count : ℕ) (single next : Bool) → is_identifier_character b ≡ true → next ≡ (single && not (is_underscore b && not (begins is_ascii_alphanumeric rest))) → Passed text (b ∷ rest) count single → Passed text rest (count + 1) next
passed_more text rest b count single next h e passed = record {
  counted = omega (arith, passed.counted, ap (λ v. cond v (1 + prefix_len is_identifier_character rest) 0) h);
  validated = ap (λ v. v && has_single_underscores (name_prefix rest)) e ∙ validated_more single b rest h ∙ passed.validated;
}

-- after any other they are as before
pub stays_single : (single loose : Bool) → loose ≡ false → single ≡ (single && not loose)
stays_single true loose h = sym (ap not h)
stays_single false loose h = refl

-- the first byte of the rest is passed, and its underscore is checked
pub record Step (rest : List ℕ) (single next : Bool) : Type 0 where
  pub passes : is_identifier_character (slice_index rest 0) ≡ true
  pub validates : next ≡ (single && not (is_underscore (slice_index rest 0) && not (begins is_ascii_alphanumeric (take (length rest - 1) (drop 1 rest)))))

-- a letter or a digit
plain_step : (rest : List ℕ) (single next : Bool) → is_ascii_alphanumeric (slice_index rest 0) ≡ true → next ≡ single → Step rest single next
plain_step rest single next h e = record {
  passes = ap (λ v. v || is_underscore (slice_index rest 0)) h;
  validates = e ∙ stays_single single _ (ap (λ v. v && not (begins is_ascii_alphanumeric (take (length rest - 1) (drop 1 rest)))) (plain_is_other (slice_index rest 0) h));
}

-- a letter
pub letter_step : (rest : List ℕ) (single next : Bool) → is_ascii_alphabetic (slice_index rest 0) ≡ true → next ≡ single → Step rest single next
letter_step rest single next h e = plain_step rest single next (with_digits (is_in_range 48 57 (slice_index rest 0)) (is_in_range 65 90 (slice_index rest 0)) (is_in_range 97 122 (slice_index rest 0)) h) e
  where
    with_digits : (digit upper lower : Bool) → (upper || lower) ≡ true → ((digit || upper) || lower) ≡ true
    with_digits true upper lower h = refl
    with_digits false upper lower h = h

-- a digit
pub digit_step : (rest : List ℕ) (single next : Bool) → is_ascii_digit (slice_index rest 0) ≡ true → next ≡ single → Step rest single next
digit_step rest single next h e = plain_step rest single next (ap (λ v. (v || is_in_range 65 90 (slice_index rest 0)) || is_in_range 97 122 (slice_index rest 0)) h) e

-- an underscore
pub underscore_step : (rest : List ℕ) (single next plain : Bool) → slice_index rest 0 ≡ 95 → plain ≡ begins is_ascii_alphanumeric (take (length rest - 1) (drop 1 rest)) → next ≡ (single && plain) → Step rest single next
underscore_step rest single next plain h p e =
    let here : is_underscore (slice_index rest 0) ≡ true = ap is_underscore h in
    record {
      passes = ap is_identifier_character h;
      validates = e ∙ ap (λ v. single && v) (p ∙ twice (begins is_ascii_alphanumeric (take (length rest - 1) (drop 1 rest)))) ∙ ap (λ v. single && not (v && not (begins is_ascii_alphanumeric (take (length rest - 1) (drop 1 rest))))) (sym here);
    }
  where
    twice : (v : Bool) → v ≡ not (true && not v)
    twice true = refl
    twice false = refl

-- one step
pub passed_step : (text rest : List ℕ) (count : ℕ) (single next : Bool) → 1 ≤ length rest → Step rest single next → Passed text rest count single → Passed text (take (length rest - 1) (drop 1 rest)) (count + 1) next
passed_step text [] count single next long step passed = absurd (omega arith)
passed_step text (b ∷ rest) count single next long step passed =
    let whole : take (length (b ∷ rest) - 1) rest ≡ rest = take_all _ rest (omega arith) in
    subst (λ l. Passed text l (count + 1) next) (sym whole) (passed_more text rest b count single next step.passes (step.validates ∙ ap (λ l. single && not (is_underscore b && not (begins is_ascii_alphanumeric l))) whole) passed)
