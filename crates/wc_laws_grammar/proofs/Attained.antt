-- There is a lexeme as long as the look ahead wherever the look ahead finds one.
use Rattle.std.proofs.Common.{◌≡◌, ℕ, zero, suc, ◌+◌, ◌≤◌, Bool, true, false, cond, ◌||◌, List, [], ◌∷◌, ◌++◌, length, drop, take, Option, Some, None, refl, sym, ap, ◌∙◌, subst, ⊎_elim, arith, append_assoc, take-append-drop, length-append, one-add, add-zero}
use Rattle.wc_model.proofs.Common.{is_ascii_digit, is_in_range, list_all, prefix_len, option_map_or, and_from, cases_Bool, or_left, or_from, not_from_false, eqb-true, cond-true, cond-false, length-prefix_len}
use Rattle.wc_laws_grammar.specs.Sights.{hash_reach, is_mark_before, is_pair_mark, mark_reach, reach, value_reach, word_reach}
use Rattle.wc_laws_grammar.proofs.Reach.{longest_at, reach_digit, reach_mark, reach_sign, reach_word, starts_mark}
use Rattle.wc_model.specs.Definitions.{begins, is_address_character, is_hash, is_identifier_character, is_minus, is_number_character, is_percent, is_sign, is_underscore, starts_identifier, Lexeme, Run, Typed, Unsigned, Signed, Sign, Addressed, Marked, IsLongestLexeme, is_literal_value, may_occur_before, Shape, mark_of}

-- a lexeme as long as the look ahead
pub record Attained (rest : List ℕ) : Type 0 where
  pub chunk : List ℕ
  pub after : List ℕ
  pub whole : chunk ++ after ≡ rest
  pub lexeme : Lexeme chunk after
  pub full : reach rest ≡ length chunk

-- ---- prefixes

-- the prefix that passes passes
pub prefix_passes : (p : ℕ → Bool) (xs : List ℕ) → list_all p (take (prefix_len p xs) xs) ≡ true
prefix_passes p [] = refl
prefix_passes p (x ∷ xs) =
    elim (p x) as (λ v. p x ≡ v → list_all p (take (cond v (1 + prefix_len p xs) 0) (x ∷ xs)) ≡ true)
    [ true ↦ λ e. rw one-add (and_from _ _ e (prefix_passes p xs)) | false ↦ λ _. refl ] refl

-- it starts as the list does, if the first element passes
pub prefix_starts : (p test : ℕ → Bool) (x : ℕ) (xs : List ℕ) → p x ≡ true → test x ≡ true → begins test (take (prefix_len p (x ∷ xs)) (x ∷ xs)) ≡ true
prefix_starts p test x xs passes starts =
    let more : prefix_len p (x ∷ xs) ≡ suc (prefix_len p xs) = cond-true (p x) (1 + prefix_len p xs) 0 passes ∙ one-add _ in
    subst (λ n. begins test (take n (x ∷ xs)) ≡ true) (sym more) starts

-- a prefix starts with nothing that the list does not start with
pub prefix_starts_not : (test : ℕ → Bool) (n : ℕ) (xs : List ℕ) → begins test xs ≡ false → begins test (take n xs) ≡ false
prefix_starts_not test zero xs h = refl
prefix_starts_not test (suc n) [] h = refl
prefix_starts_not test (suc n) (x ∷ xs) h = h

-- an identifier goes on with what starts it
pub start_goes_on : (b : ℕ) → starts_identifier b ≡ true → is_identifier_character b ≡ true
start_goes_on b h = one_more (is_in_range 48 57 b) (is_in_range 65 90 b) (is_in_range 97 122 b) (is_underscore b) h
  where
    one_more : (digit upper lower underscore : Bool) → (upper || lower || underscore) ≡ true → (digit || upper || lower || underscore) ≡ true
    one_more true upper lower underscore k = refl
    one_more false upper lower underscore k = k

-- a number goes on with digits
pub digit_goes_on : (b : ℕ) → is_ascii_digit b ≡ true → is_number_character b ≡ true
digit_goes_on b h = or_left _ _ (or_left _ _ (or_left _ _ (or_left _ _ (or_left _ _ h))))

-- ---- what follows a `#`

-- what a typed literal takes after its `#`, as long as the look ahead
pub record ValuePrefix (rest : List ℕ) : Type 0 where
  pub value : List ℕ
  pub after : List ℕ
  pub whole : value ++ after ≡ rest
  pub format : is_literal_value value ≡ true
  pub full : value_reach rest ≡ length value

-- it follows every `#`
pub value_prefix : (rest : List ℕ) → ValuePrefix rest
value_prefix [] = record { value = []; after = []; whole = refl; format = refl; full = refl }
value_prefix (b ∷ rest) =
    elim (is_minus b) as (λ v. is_minus b ≡ v → ValuePrefix (b ∷ rest)) [
      | true ↦ λ e. record {
        value = b ∷ take (prefix_len is_number_character rest) rest;
        after = drop (prefix_len is_number_character rest) rest;
        whole = ap (λ l. b ∷ l) (take-append-drop (prefix_len is_number_character rest) rest);
        format = subst (λ t. list_all is_number_character (drop (cond t 1 0) (b ∷ take (prefix_len is_number_character rest) rest)) ≡ true) (sym e) (prefix_passes is_number_character rest);
        full = cond-true (is_minus b) _ _ e ∙ one-add _ ∙ ap (λ n. suc n) (sym (length-prefix_len is_number_character rest));
      }
      | false ↦ λ e. record {
        value = take (prefix_len is_number_character (b ∷ rest)) (b ∷ rest);
        after = drop (prefix_len is_number_character (b ∷ rest)) (b ∷ rest);
        whole = take-append-drop (prefix_len is_number_character (b ∷ rest)) (b ∷ rest);
        format = subst (λ t. list_all is_number_character (drop (cond t 1 0) (take (prefix_len is_number_character (b ∷ rest)) (b ∷ rest))) ≡ true) (sym (prefix_starts_not is_minus (prefix_len is_number_character (b ∷ rest)) (b ∷ rest) e)) (prefix_passes is_number_character (b ∷ rest));
        full = cond-false (is_minus b) _ _ e ∙ sym (length-prefix_len is_number_character (b ∷ rest));
      }
    ] refl

-- ---- the lexemes

-- an identifier, if no `#` follows
pub run_attained : (b : ℕ) (rest : List ℕ) → starts_identifier b ≡ true → hash_reach (drop (prefix_len is_identifier_character (b ∷ rest)) (b ∷ rest)) ≡ 0 → Attained (b ∷ rest)
run_attained b rest h none = record {
  chunk = take (prefix_len is_identifier_character (b ∷ rest)) (b ∷ rest);
  after = drop (prefix_len is_identifier_character (b ∷ rest)) (b ∷ rest);
  whole = take-append-drop (prefix_len is_identifier_character (b ∷ rest)) (b ∷ rest);
  lexeme = Run (and_from _ _ (prefix_starts is_identifier_character starts_identifier b rest (start_goes_on b h) h) (prefix_passes is_identifier_character (b ∷ rest)));
  full = reach_word b rest h ∙ ap (λ n. prefix_len is_identifier_character (b ∷ rest) + n) none ∙ add-zero _ ∙ sym (length-prefix_len is_identifier_character (b ∷ rest));
}

-- a typed literal, if a `#` follows
pub typed_attained : (b c : ℕ) (rest more : List ℕ) → starts_identifier b ≡ true → drop (prefix_len is_identifier_character (b ∷ rest)) (b ∷ rest) ≡ c ∷ more → is_hash c ≡ true → Attained (b ∷ rest)
typed_attained b c rest more h e hash =
    let n = prefix_len is_identifier_character (b ∷ rest) in
    let type : List ℕ = take n (b ∷ rest) in
    let prefix = value_prefix more in
    let is_35 : c ≡ 35 = eqb-true c 35 hash in
    let tail : drop n (b ∷ rest) ≡ 35 ∷ more = e ∙ ap (λ x. x ∷ more) is_35 in
    let taken : word_reach (b ∷ rest) ≡ n + (1 + value_reach more) = ap (λ l. n + hash_reach l) tail in
    record {
      chunk = type ++ 35 ∷ prefix.value;
      after = prefix.after;
      whole = append_assoc type (35 ∷ prefix.value) prefix.after ∙ ap (λ l. type ++ 35 ∷ l) prefix.whole ∙ ap (λ l. type ++ l) (sym tail) ∙ take-append-drop n (b ∷ rest);
      lexeme = Typed type prefix.value refl (and_from _ _ (prefix_starts is_identifier_character starts_identifier b rest (start_goes_on b h) h) (prefix_passes is_identifier_character (b ∷ rest))) prefix.format;
      full = reach_word b rest h ∙ omega (arith, taken, prefix.full, length-append type (35 ∷ prefix.value), length-prefix_len is_identifier_character (b ∷ rest));
    }

-- an identifier or a typed literal
pub word_attained : (b : ℕ) (rest : List ℕ) → starts_identifier b ≡ true → Attained (b ∷ rest)
word_attained b rest h = go (drop (prefix_len is_identifier_character (b ∷ rest)) (b ∷ rest)) refl
  where
    go : (tail : List ℕ) → drop (prefix_len is_identifier_character (b ∷ rest)) (b ∷ rest) ≡ tail → Attained (b ∷ rest)
    go [] e = run_attained b rest h (ap hash_reach e)
    go (c ∷ more) e =
        elim (is_hash c) as (λ v. is_hash c ≡ v → Attained (b ∷ rest))
        [ true ↦ λ hash. typed_attained b c rest more h e hash | false ↦ λ other. run_attained b rest h (ap hash_reach e ∙ cond-false (is_hash c) _ _ other) ] refl

-- a number without a sign
pub number_attained : (b : ℕ) (rest : List ℕ) → is_ascii_digit b ≡ true → Attained (b ∷ rest)
number_attained b rest h = record {
  chunk = take (prefix_len is_number_character (b ∷ rest)) (b ∷ rest);
  after = drop (prefix_len is_number_character (b ∷ rest)) (b ∷ rest);
  whole = take-append-drop (prefix_len is_number_character (b ∷ rest)) (b ∷ rest);
  lexeme = Unsigned (and_from _ _ (prefix_starts is_number_character is_ascii_digit b rest (digit_goes_on b h) h) (prefix_passes is_number_character (b ∷ rest)));
  full = reach_digit b rest h ∙ sym (length-prefix_len is_number_character (b ∷ rest));
}

-- a number with a sign, or a sign alone
pub sign_attained : (b : ℕ) (rest : List ℕ) → is_sign b ≡ true → Attained (b ∷ rest)
sign_attained b [] h = record { chunk = b ∷ []; after = []; whole = refl; lexeme = Sign b refl h; full = reach_sign b [] h }
sign_attained b (c ∷ rest) h =
    elim (is_ascii_digit c) as (λ v. is_ascii_digit c ≡ v → Attained (b ∷ c ∷ rest)) [
      | true ↦ λ digit. record {
        chunk = b ∷ take (prefix_len is_number_character (c ∷ rest)) (c ∷ rest);
        after = drop (prefix_len is_number_character (c ∷ rest)) (c ∷ rest);
        whole = ap (λ l. b ∷ l) (take-append-drop (prefix_len is_number_character (c ∷ rest)) (c ∷ rest));
        lexeme = Signed b (take (prefix_len is_number_character (c ∷ rest)) (c ∷ rest)) refl h (and_from _ _ (prefix_starts is_number_character is_ascii_digit c rest (digit_goes_on c digit) digit) (prefix_passes is_number_character (c ∷ rest)));
        full = reach_sign b (c ∷ rest) h ∙ cond-true (is_ascii_digit c) _ _ digit ∙ one-add _ ∙ ap (λ n. suc n) (sym (length-prefix_len is_number_character (c ∷ rest)));
      }
      | false ↦ λ other. record { chunk = b ∷ []; after = c ∷ rest; whole = refl; lexeme = Sign b refl h; full = reach_sign b (c ∷ rest) h ∙ cond-false (is_ascii_digit c) _ _ other }
    ] refl

-- an address
pub place_attained : (rest : List ℕ) → Attained (37 ∷ rest)
place_attained rest = record {
  chunk = 37 ∷ take (prefix_len is_address_character rest) rest;
  after = drop (prefix_len is_address_character rest) rest;
  whole = ap (λ l. 37 ∷ l) (take-append-drop (prefix_len is_address_character rest) rest);
  lexeme = Addressed (take (prefix_len is_address_character rest) rest) refl (prefix_passes is_address_character rest);
  full = one-add _ ∙ ap (λ n. suc n) (sym (length-prefix_len is_address_character rest));
}

-- a mark that may precede the rest is a lexeme
mark_lexeme : (chunk rest : List ℕ) → is_mark_before chunk rest ≡ true → Lexeme chunk rest
mark_lexeme chunk rest h = go (mark_of chunk) refl h
  where
    go : (found : Option Shape) → mark_of chunk ≡ found → option_map_or (λ shape. may_occur_before shape rest) found false ≡ true → Lexeme chunk rest
    go None e may = absurd (cc)
    go (Some shape) e may = Marked shape e may

-- a mark of one byte, if there is none of two bytes
pub single_attained : (b : ℕ) (rest : List ℕ) → starts_mark b ≡ true → is_pair_mark b rest ≡ false → 1 ≤ mark_reach b rest → Attained (b ∷ rest)
single_attained b rest h no_pair some =
    elim (is_mark_before (b ∷ []) rest) as (λ v. is_mark_before (b ∷ []) rest ≡ v → Attained (b ∷ rest)) [
      | true ↦ λ single. record { chunk = b ∷ []; after = rest; whole = refl; lexeme = mark_lexeme (b ∷ []) rest single; full = reach_mark b rest h ∙ cond-false (is_pair_mark b rest) _ _ no_pair ∙ cond-true (is_mark_before (b ∷ []) rest) _ _ single }
      | false ↦ λ none. let zero_reach : mark_reach b rest ≡ 0 = cond-false (is_pair_mark b rest) _ _ no_pair ∙ cond-false (is_mark_before (b ∷ []) rest) _ _ none in absurd (omega arith)
    ] refl

-- a mark of two bytes or of one
pub mark_attained : (b : ℕ) (rest : List ℕ) → starts_mark b ≡ true → 1 ≤ mark_reach b rest → Attained (b ∷ rest)
mark_attained b [] h some = single_attained b [] h refl some
mark_attained b (c ∷ rest) h some =
    elim (is_mark_before (b ∷ c ∷ []) rest) as (λ v. is_mark_before (b ∷ c ∷ []) rest ≡ v → Attained (b ∷ c ∷ rest)) [
      | true ↦ λ pair. record { chunk = b ∷ c ∷ []; after = rest; whole = refl; lexeme = mark_lexeme (b ∷ c ∷ []) rest pair; full = reach_mark b (c ∷ rest) h ∙ cond-true (is_mark_before (b ∷ c ∷ []) rest) _ _ pair }
      | false ↦ λ other. single_attained b (c ∷ rest) h other some
    ] refl

-- if the look ahead finds a lexeme, there is one
pub attained : (b : ℕ) (rest : List ℕ) → 1 ≤ reach (b ∷ rest) → Attained (b ∷ rest)
attained b rest some = ⊎_elim (λ word. word_attained b rest word) (λ no_word. ⊎_elim (λ digit. number_attained b rest digit) (λ no_digit. ⊎_elim (λ sign. sign_attained b rest sign) (λ no_sign. ⊎_elim (λ percent. subst (λ x. Attained (x ∷ rest)) (sym (eqb-true b 37 percent)) (place_attained rest)) (λ no_percent. last no_word no_digit no_sign no_percent) (cases_Bool (is_percent b))) (cases_Bool (is_sign b))) (cases_Bool (is_ascii_digit b))) (cases_Bool (starts_identifier b))
  where
    last : starts_identifier b ≡ false → is_ascii_digit b ≡ false → is_sign b ≡ false → is_percent b ≡ false → Attained (b ∷ rest)
    last word digit sign percent =
        let mark : starts_mark b ≡ true = not_from_false _ (or_from _ _ (or_from _ _ (or_from _ _ word digit) sign) percent) in
        mark_attained b rest mark (subst (λ n. 1 ≤ n) (reach_mark b rest mark) some)

-- what is as long as the look ahead is the longest lexeme
pub attained_longest : (rest : List ℕ) → (here : Attained rest) → IsLongestLexeme here.chunk here.after
attained_longest rest here = longest_at here.chunk here.after here.lexeme (ap reach here.whole ∙ here.full)
