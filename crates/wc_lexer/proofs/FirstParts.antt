-- A duration's first part by its longest number and its longest letters.
use Rattle.std.proofs.Common.{◌≡◌, ℕ, ◌+◌, ◌≤◌, Bool, true, false, cond, not, List, [], ◌∷◌, ◌++◌, length, drop, take, refl, sym, ap, ◌∙◌, subst, arith, one-add, take-append-drop, true≢false}
use Rattle.wc_model.proofs.Common.{and_parts, cond-true, cond-false, not-true, is_ascii_alphabetic, list_all, prefix_len}
use Rattle.std.proofs.lemmas.List.{append-nil}
use Rattle.wc_laws_grammar.proofs.Attained.{prefix_passes}
use Rattle.wc_laws_grammar.proofs.DurationParts.{has_no_letter, part, first_part, onto_number}
use Rattle.wc_model.specs.Definitions.{begins, parts_of, onto_parts}

-- the byte is not a letter
abbrev pub is_no_letter : ℕ → Bool
is_no_letter b = not (is_ascii_alphabetic b)

-- the prefix ends where an element fails
pub prefix_stops : (p : ℕ → Bool) (xs : List ℕ) → begins p (drop (prefix_len p xs) xs) ≡ false
prefix_stops p [] = refl
prefix_stops p (x ∷ xs) =
    elim (p x) as (λ v. p x ≡ v → begins p (drop (cond v (1 + prefix_len p xs) 0) (x ∷ xs)) ≡ false)
    [ true ↦ λ e. rw one-add (prefix_stops p xs) | false ↦ λ e. e ] refl

-- bytes that are not letters
pub no_letters : (xs : List ℕ) → list_all is_no_letter xs ≡ true → has_no_letter xs ≡ true
no_letters [] h = refl
no_letters (x ∷ xs) h =
    let both = and_parts (is_no_letter x) (list_all is_no_letter xs) h in
    cond-false (is_ascii_alphabetic x) _ _ (not-true _ both.0) ∙ no_letters xs both.1

-- the first of bytes that are not letters is not one
pub first_no_letter : (b : ℕ) (rest : List ℕ) → has_no_letter (b ∷ rest) ≡ true → is_ascii_alphabetic b ≡ false
first_no_letter b rest h =
    elim (is_ascii_alphabetic b) as (λ v. cond v false (has_no_letter rest) ≡ true → v ≡ false) [ true ↦ λ none. sym none | false ↦ λ none. refl ] h

-- the others are not
pub later_no_letters : (b : ℕ) (rest : List ℕ) → has_no_letter (b ∷ rest) ≡ true → has_no_letter rest ≡ true
later_no_letters b rest h = sym (cond-false (is_ascii_alphabetic b) false (has_no_letter rest) (first_no_letter b rest h)) ∙ h

-- bytes that are not letters are a part alone
pub number_alone : (b : ℕ) (number : List ℕ) → has_no_letter (b ∷ number) ≡ true → parts_of (b ∷ number) ≡ part (b ∷ number) [] ∷ []
number_alone b [] h = cond-false (is_ascii_alphabetic b) _ _ (first_no_letter b [] h)
number_alone b (c ∷ number) h = ap (onto_parts b) (number_alone c number (later_no_letters b (c ∷ number) h)) ∙ onto_number b (c ∷ number) [] [] (first_no_letter b (c ∷ number) h)

-- the first part by its number and letters
pub part_first : (number letters rest : List ℕ) → has_no_letter number ≡ true → list_all is_ascii_alphabetic letters ≡ true → begins is_ascii_alphabetic rest ≡ false → begins is_no_letter (letters ++ rest) ≡ false → 1 ≤ length (number ++ (letters ++ rest)) → parts_of (number ++ (letters ++ rest)) ≡ part number letters ∷ parts_of rest
part_first number (l ∷ letters) rest h k stop next long = first_part number l letters rest h k stop ∙ ap (λ n. part n (l ∷ letters) ∷ parts_of rest) (append-nil number)
part_first number [] (r ∷ rest) h k stop next long = absurd (true≢false (sym (ap not stop) ∙ next))
part_first (b ∷ number) [] [] h k stop next long = ap parts_of (append-nil (b ∷ number)) ∙ number_alone b number h
part_first [] [] [] h k stop next long = absurd (omega arith)

-- the first part of a text
pub text_parts : (text : List ℕ) → 1 ≤ length text → (n : ℕ) → n ≡ prefix_len is_no_letter text → (m : ℕ) → m ≡ prefix_len is_ascii_alphabetic (drop n text) → parts_of text ≡ part (take n text) (take m (drop n text)) ∷ parts_of (drop m (drop n text))
text_parts text long n e m f =
    let number = take n text in
    let following = drop n text in
    let letters = take m following in
    let rest = drop m following in
    let whole : number ++ (letters ++ rest) ≡ text = ap (λ l. number ++ l) (take-append-drop m following) ∙ take-append-drop n text in
    let none : has_no_letter number ≡ true = no_letters number (subst (λ k. list_all is_no_letter (take k text) ≡ true) (sym e) (prefix_passes is_no_letter text)) in
    let all : list_all is_ascii_alphabetic letters ≡ true = subst (λ k. list_all is_ascii_alphabetic (take k following) ≡ true) (sym f) (prefix_passes is_ascii_alphabetic following) in
    let stop : begins is_ascii_alphabetic rest ≡ false = subst (λ k. begins is_ascii_alphabetic (drop k following) ≡ false) (sym f) (prefix_stops is_ascii_alphabetic following) in
    let next : begins is_no_letter following ≡ false = subst (λ k. begins is_no_letter (drop k text) ≡ false) (sym e) (prefix_stops is_no_letter text) in
    let joined : begins is_no_letter (letters ++ rest) ≡ false = subst (λ l. begins is_no_letter l ≡ false) (sym (take-append-drop m following)) next in
    ap parts_of (sym whole) ∙ part_first number letters rest none all stop joined (omega (arith, ap length whole))

-- it takes a byte or more
pub takes_some : (text : List ℕ) → 1 ≤ length text → (n : ℕ) → n ≡ prefix_len is_no_letter text → (m : ℕ) → m ≡ prefix_len is_ascii_alphabetic (drop n text) → 1 ≤ n + m
takes_some [] long n e m f = absurd (omega arith)
takes_some (b ∷ text) long n e m f =
    elim (is_ascii_alphabetic b) as (λ v. is_ascii_alphabetic b ≡ v → n ≡ cond (not v) (1 + prefix_len is_no_letter text) 0 → 1 ≤ n + m) [
      | true ↦ λ letter none.
          let start : m ≡ prefix_len is_ascii_alphabetic (b ∷ text) = f ∙ ap (λ k. prefix_len is_ascii_alphabetic (drop k (b ∷ text))) none in
          omega (arith, start, cond-true (is_ascii_alphabetic b) (1 + prefix_len is_ascii_alphabetic text) 0 letter)
      | false ↦ λ other some. omega arith
    ] refl e

-- the first part of a text, by its slices
pub first_cut : (text : List ℕ) → 1 ≤ length text → (n : ℕ) → n ≡ prefix_len is_no_letter text → (number following : List ℕ) → number ≡ take n text → following ≡ drop n text → (m : ℕ) → m ≡ prefix_len is_ascii_alphabetic following → (letters rest : List ℕ) → letters ≡ take m following → rest ≡ drop m following → parts_of text ≡ part number letters ∷ parts_of rest
first_cut text long n e number following prefix back m f letters rest some more =
    let all = text_parts text long n e m (f ∙ ap (prefix_len is_ascii_alphabetic) back) in
    let named : letters ≡ take m (drop n text) = some ∙ ap (take m) back in
    let left : rest ≡ drop m (drop n text) = more ∙ ap (drop m) back in
    all ∙ ap (λ x. part x (take m (drop n text)) ∷ parts_of (drop m (drop n text))) (sym prefix) ∙ ap (λ x. part number x ∷ parts_of (drop m (drop n text))) (sym named) ∙ ap (λ x. part number letters ∷ parts_of x) (sym left)
