-- No lexeme at a place is longer than what is found by looking ahead.
use Rattle.std.proofs.Common.{◌≡◌, ℕ, suc, ◌+◌, ◌≤◌, Bool, true, false, cond, not, ◌||◌, List, [], ◌∷◌, ◌++◌, length, drop, find, Some, option_map, refl, sym, ap, ◌∙◌, subst, ⊎_elim, arith, append_assoc, drop_at, length-append, bytes_eq, nat_le, IsTrue, le_trans}
use Rattle.wc_model.proofs.Common.{is_ascii_digit, list_all, prefix_len, option_map_or, and_parts, or_cases, or_parts, or_from, and_left, eqb-true, leb-true, lt-leb, ne_eqb, not-true, cond-true, cond-false, bytes_decides}
use Rattle.wc_model.specs.Definitions.{begins, is_address_character, is_identifier_character, is_minus, is_number_character, is_percent, is_sign, starts_identifier, Lexeme, Run, Typed, Unsigned, Signed, Sign, Addressed, Marked, is_run, is_literal_value, is_unsigned_run, may_occur_before, IsLongestLexeme}
use Rattle.wc_model.specs.Text.Shapes.{Shape, Mark, marks, mark_of}
use Rattle.wc_laws_grammar.specs.Sights.{value_reach, hash_reach, word_reach, signed_reach, is_mark_before, is_pair_mark, mark_reach, reach}

-- ---- the prefix of a list

-- elements that pass are within the prefix that passes
pub prefix_all : (p : ℕ → Bool) (xs ys : List ℕ) → list_all p xs ≡ true → length xs ≤ prefix_len p (xs ++ ys)
prefix_all p [] ys h = omega arith
prefix_all p (x ∷ xs) ys h =
    let both = and_parts (p x) (list_all p xs) h in
    let more = prefix_all p xs ys both.1 in
    subst (λ n. suc (length xs) ≤ n) (sym (cond-true (p x) (1 + prefix_len p (xs ++ ys)) 0 both.0)) (omega arith)

-- the prefix that passes ends where an element fails
pub prefix_stops : (p : ℕ → Bool) (xs ys : List ℕ) → list_all p xs ≡ true → begins p ys ≡ false → prefix_len p (xs ++ ys) ≡ length xs
prefix_stops p [] [] h stop = refl
prefix_stops p [] (y ∷ ys) h stop = cond-false (p y) (1 + prefix_len p ys) 0 stop
prefix_stops p (x ∷ xs) ys h stop =
    let both = and_parts (p x) (list_all p xs) h in
    let more = prefix_stops p xs ys both.1 stop in
    cond-true (p x) (1 + prefix_len p (xs ++ ys)) 0 both.0 ∙ omega (arith, more)

-- ---- the first byte

-- a digit starts no identifier
pub digit_starts_no_identifier : (b : ℕ) → is_ascii_digit b ≡ true → starts_identifier b ≡ false
digit_starts_no_identifier b h =
    let both = and_parts (nat_le 48 b) (nat_le b 57) h in
    let low = leb-true 48 b both.0 in
    let high = leb-true b 57 both.1 in
    or_from _ _ (or_from _ _ (and_left _ _ (lt-leb 65 b (omega arith))) (and_left _ _ (lt-leb 97 b (omega arith)))) (ne_eqb b 95 (λ e. omega (arith, e)))

-- where an identifier starts
pub reach_word : (b : ℕ) (rest : List ℕ) → starts_identifier b ≡ true → reach (b ∷ rest) ≡ word_reach (b ∷ rest)
reach_word b rest h = cond-true (starts_identifier b) _ _ h

-- where a digit is
pub reach_digit : (b : ℕ) (rest : List ℕ) → is_ascii_digit b ≡ true → reach (b ∷ rest) ≡ prefix_len is_number_character (b ∷ rest)
reach_digit b rest h = cond-false (starts_identifier b) _ _ (digit_starts_no_identifier b h) ∙ cond-true (is_ascii_digit b) _ _ h

-- where a sign is
pub reach_sign : (b : ℕ) (rest : List ℕ) → is_sign b ≡ true → reach (b ∷ rest) ≡ signed_reach rest
reach_sign b rest h =
    ⊎_elim (λ plus. subst (λ x. reach (x ∷ rest) ≡ signed_reach rest) (sym (eqb-true b 43 plus)) refl) (λ minus. subst (λ x. reach (x ∷ rest) ≡ signed_reach rest) (sym (eqb-true b 45 minus)) refl) (or_cases _ _ h)

-- the byte starts no lexeme but a mark
abbrev pub starts_mark : ℕ → Bool
starts_mark b = not (starts_identifier b || is_ascii_digit b || is_sign b || is_percent b)

-- where none of these is
pub reach_mark : (b : ℕ) (rest : List ℕ) → starts_mark b ≡ true → reach (b ∷ rest) ≡ mark_reach b rest
reach_mark b rest h =
    let none = or_parts (starts_identifier b || is_ascii_digit b || is_sign b) (is_percent b) (not-true _ h) in
    let unsigned = or_parts (starts_identifier b || is_ascii_digit b) (is_sign b) none.0 in
    let word = or_parts (starts_identifier b) (is_ascii_digit b) unsigned.0 in
    cond-false (starts_identifier b) _ _ word.0 ∙ cond-false (is_ascii_digit b) _ _ word.1 ∙ cond-false (is_sign b) _ _ unsigned.1 ∙ cond-false (is_percent b) _ _ none.1

-- ---- marks

-- what every mark of a table passes, the mark that is found passes
pub found_passes : (test : List ℕ → Shape → Bool) (table : List Mark) (chunk : List ℕ) (shape : Shape) → list_all (λ mark. test mark.spelling mark.shape) table ≡ true → option_map (λ mark. mark.shape) (find (λ mark. bytes_eq chunk mark.spelling) table) ≡ Some shape → test chunk shape ≡ true
found_passes test [] chunk shape all found = cc
found_passes test (mark ∷ table) chunk shape all found =
    let both = and_parts (test mark.spelling mark.shape) _ all in
    elim (bytes_eq chunk mark.spelling) as (λ v. bytes_eq chunk mark.spelling ≡ v → option_map (λ m. m.shape) (cond v (Some mark) (find (λ m. bytes_eq chunk m.spelling) table)) ≡ Some shape → test chunk shape ≡ true) [
      | true ↦ λ same here.
          let spelled : chunk ≡ mark.spelling = (bytes_decides chunk mark.spelling).0 same in
          let shaped : mark.shape ≡ shape = cc in
          subst (λ s. test chunk s ≡ true) shaped (subst (λ p. test p mark.shape ≡ true) (sym spelled) both.0)
      | false ↦ λ other later. found_passes test table chunk shape both.1 later
    ] refl found

-- every mark passes what the table's marks pass
pub mark_passes : (test : List ℕ → Shape → Bool) (chunk : List ℕ) (shape : Shape) → list_all (λ mark. test mark.spelling mark.shape) marks ≡ true → mark_of chunk ≡ Some shape → test chunk shape ≡ true
mark_passes test chunk shape all found = found_passes test marks chunk shape all found

-- a mark has one or two bytes, and its first one starts nothing else
abbrev pub is_short_mark : List ℕ → Bool
is_short_mark [] = false
is_short_mark (b ∷ []) = starts_mark b
is_short_mark (b ∷ c ∷ []) = starts_mark b
is_short_mark (b ∷ c ∷ d ∷ rest) = false

-- every mark is so short
pub mark_is_short : (chunk : List ℕ) (shape : Shape) → mark_of chunk ≡ Some shape → is_short_mark chunk ≡ true
mark_is_short chunk shape found = mark_passes (λ p s. is_short_mark p) chunk shape refl found

-- a mark and what it may precede
pub marked : (chunk rest : List ℕ) (shape : Shape) → mark_of chunk ≡ Some shape → may_occur_before shape rest ≡ true → is_mark_before chunk rest ≡ true
marked chunk rest shape found may = subst (λ o. option_map_or (λ s. may_occur_before s rest) o false ≡ true) (sym found) may

-- ---- no lexeme is longer

-- after a `#`
value_within : (value after : List ℕ) → IsTrue (is_literal_value value) → length value ≤ value_reach (value ++ after)
value_within [] after h = omega arith
value_within (b ∷ value) after h =
    elim (is_minus b) as (λ v. list_all is_number_character (drop (cond v 1 0) (b ∷ value)) ≡ true → suc (length value) ≤ cond v (1 + prefix_len is_number_character (value ++ after)) (prefix_len is_number_character (b ∷ value ++ after)))
    [ true ↦ λ all. omega (arith, prefix_all is_number_character value after all) | false ↦ λ all. prefix_all is_number_character (b ∷ value) after all ] h

-- an identifier
run_within : (chunk after : List ℕ) → IsTrue (is_run chunk) → length chunk ≤ reach (chunk ++ after)
run_within [] after h = omega arith
run_within (b ∷ run) after h =
    let both = and_parts (starts_identifier b) _ h in
    let bound = prefix_all is_identifier_character (b ∷ run) after both.1 in
    subst (λ n. suc (length run) ≤ n) (sym (reach_word b (run ++ after) both.0)) (le_trans bound (omega arith))

-- what a run and a `#` take
pub word_reach_typed : (type rest : List ℕ) → list_all is_identifier_character type ≡ true → word_reach (type ++ 35 ∷ rest) ≡ length type + (1 + value_reach rest)
word_reach_typed type rest all =
    let text : List ℕ = type ++ 35 ∷ rest in
    let run : prefix_len is_identifier_character text ≡ length type = prefix_stops is_identifier_character type (35 ∷ rest) all refl in
    ap (λ n. n + hash_reach (drop n text)) run ∙ ap (λ left. length type + hash_reach left) (drop_at type (35 ∷ rest) (length type) refl)

-- a typed literal
typed_within : (type value after : List ℕ) → IsTrue (is_run type) → IsTrue (is_literal_value value) → length (type ++ 35 ∷ value) ≤ reach ((type ++ 35 ∷ value) ++ after)
typed_within [] value after h k = absurd (cc)
typed_within (b ∷ run) value after h k =
    let both = and_parts (starts_identifier b) _ h in
    let full = reach_word b (run ++ 35 ∷ (value ++ after)) both.0 ∙ word_reach_typed (b ∷ run) (value ++ after) both.1 in
    subst (λ text. length (b ∷ run ++ 35 ∷ value) ≤ reach text) (sym (append_assoc (b ∷ run) (35 ∷ value) after))
    (subst (λ n. length (b ∷ run ++ 35 ∷ value) ≤ n) (sym full) (omega (arith, length-append run (35 ∷ value), value_within value after k)))

-- a number without a sign
unsigned_within : (chunk after : List ℕ) → IsTrue (is_unsigned_run chunk) → length chunk ≤ reach (chunk ++ after)
unsigned_within [] after h = omega arith
unsigned_within (b ∷ run) after h =
    let both = and_parts (is_ascii_digit b) _ h in
    subst (λ n. suc (length run) ≤ n) (sym (reach_digit b (run ++ after) both.0)) (prefix_all is_number_character (b ∷ run) after both.1)

-- a number with a sign
signed_within : (sign : ℕ) (number after : List ℕ) → IsTrue (is_sign sign) → IsTrue (is_unsigned_run number) → suc (length number) ≤ reach (sign ∷ number ++ after)
signed_within sign [] after h k = absurd (cc)
signed_within sign (b ∷ run) after h k =
    let both = and_parts (is_ascii_digit b) _ k in
    let bound = prefix_all is_number_character (b ∷ run) after both.1 in
    subst (λ n. suc (suc (length run)) ≤ n) (sym (reach_sign sign (b ∷ run ++ after) h ∙ cond-true (is_ascii_digit b) _ _ both.0)) (omega (arith, bound))

-- a sign alone
sign_within : (sign : ℕ) (after : List ℕ) → IsTrue (is_sign sign) → 1 ≤ reach (sign ∷ after)
sign_within sign after h =
    subst (λ n. 1 ≤ n) (sym (reach_sign sign after h)) (elim (begins is_ascii_digit after) as (λ v. 1 ≤ cond v (1 + prefix_len is_number_character after) 1) [ true ↦ omega arith | false ↦ omega arith ])

-- a mark
mark_within : (chunk after : List ℕ) (shape : Shape) → mark_of chunk ≡ Some shape → IsTrue (may_occur_before shape after) → IsTrue (is_short_mark chunk) → length chunk ≤ reach (chunk ++ after)
mark_within [] after shape found may short = omega arith
mark_within (b ∷ []) after shape found may short =
    let here = marked (b ∷ []) after shape found may in
    subst (λ n. 1 ≤ n) (sym (reach_mark b after short))
    (subst (λ t. 1 ≤ cond (is_pair_mark b after) 2 (cond t 1 0)) (sym here) (elim (is_pair_mark b after) as (λ v. 1 ≤ cond v 2 1) [ true ↦ omega arith | false ↦ omega arith ]))
mark_within (b ∷ c ∷ []) after shape found may short =
    let here = marked (b ∷ c ∷ []) after shape found may in
    subst (λ n. 2 ≤ n) (sym (reach_mark b (c ∷ after) short)) (subst (λ t. 2 ≤ cond t 2 (cond (is_mark_before (b ∷ []) (c ∷ after)) 1 0)) (sym here) (omega arith))
mark_within (b ∷ c ∷ d ∷ more) after shape found may short = absurd (cc)

-- a lexeme is at most so long
pub within_reach : (chunk after : List ℕ) → Lexeme chunk after → length chunk ≤ reach (chunk ++ after)
within_reach chunk after (Run h) = run_within chunk after h
within_reach chunk after (Typed type value e h k) = subst (λ p. length p ≤ reach (p ++ after)) (sym e) (typed_within type value after h k)
within_reach chunk after (Unsigned h) = unsigned_within chunk after h
within_reach chunk after (Signed sign number e h k) = subst (λ p. length p ≤ reach (p ++ after)) (sym e) (signed_within sign number after h k)
within_reach chunk after (Sign sign e h) = subst (λ p. length p ≤ reach (p ++ after)) (sym e) (sign_within sign after h)
within_reach chunk after (Addressed address e h) =
    subst (λ p. length p ≤ reach (p ++ after)) (sym e) (omega (arith, prefix_all is_address_character address after h))
within_reach chunk after (Marked shape found may) = mark_within chunk after shape found may (mark_is_short chunk shape found)

-- a lexeme that is so long is the longest
pub longest_at : (chunk after : List ℕ) → Lexeme chunk after → reach (chunk ++ after) ≡ length chunk → IsLongestLexeme chunk after
longest_at chunk after lexeme full = record {
  lexeme = lexeme;
  longest = λ other left e l. subst (λ n. length other ≤ n) (ap reach e ∙ full) (within_reach other left l);
}
