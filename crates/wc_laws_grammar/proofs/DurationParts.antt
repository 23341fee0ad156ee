-- The parts of a duration, from its first one on.
use Rattle.wc_model.proofs.Common.{◌≡◌, ℕ, Bool, true, false, cond, List, [], ◌∷◌, ◌++◌, refl, sym, ap, ◌∙◌, subst, is_ascii_alphabetic, list_all, and_parts, cond-true, cond-false}
use Rattle.wc_model.specs.Definitions.{begins, Part, onto_parts, parts_of}

-- no byte is a letter
abbrev pub has_no_letter : List ℕ → Bool
has_no_letter [] = true
has_no_letter (b ∷ rest) = cond (is_ascii_alphabetic b) false (has_no_letter rest)

-- a part by what precedes its letters, and its letters
abbrev pub part : List ℕ → List ℕ → Part
part number letters = record { number = number; letters = letters }

-- a byte that is not a letter joins the number after it
pub onto_number : (b : ℕ) (number letters : List ℕ) (parts : List Part) → is_ascii_alphabetic b ≡ false → onto_parts b (part number letters ∷ parts) ≡ part (b ∷ number) letters ∷ parts
onto_number b number letters parts h = cond-false (is_ascii_alphabetic b) _ _ h

-- a letter joins the letters after it
pub onto_letters : (b : ℕ) (letters : List ℕ) (parts : List Part) → is_ascii_alphabetic b ≡ true → onto_parts b (part [] letters ∷ parts) ≡ part [] (b ∷ letters) ∷ parts
onto_letters b letters parts h = cond-true (is_ascii_alphabetic b) _ _ h

-- if no letter starts a text, a letter before it is a part of its own
pub last_letter : (b : ℕ) (rest : List ℕ) → is_ascii_alphabetic b ≡ true → begins is_ascii_alphabetic rest ≡ false → parts_of (b ∷ rest) ≡ part [] (b ∷ []) ∷ parts_of rest
last_letter b [] h stop = cond-true (is_ascii_alphabetic b) _ _ h
last_letter b (c ∷ rest) h stop = go (parts_of rest)
  where
    go : (parts : List Part) → onto_parts b (onto_parts c parts) ≡ part [] (b ∷ []) ∷ onto_parts c parts
    go [] =
        let alone : onto_parts c [] ≡ part (c ∷ []) [] ∷ [] = cond-false (is_ascii_alphabetic c) _ _ stop in
        subst (λ ps. onto_parts b ps ≡ part [] (b ∷ []) ∷ ps) (sym alone) (cond-true (is_ascii_alphabetic b) _ _ h)
    go (first ∷ parts) =
        let joined : onto_parts c (first ∷ parts) ≡ part (c ∷ first.number) first.letters ∷ parts = cond-false (is_ascii_alphabetic c) _ _ stop in
        subst (λ ps. onto_parts b ps ≡ part [] (b ∷ []) ∷ ps) (sym joined) (cond-true (is_ascii_alphabetic b) _ _ h)

-- letters before a text that starts with none are a part of their own
pub letters_first : (b : ℕ) (letters rest : List ℕ) → list_all is_ascii_alphabetic (b ∷ letters) ≡ true → begins is_ascii_alphabetic rest ≡ false → parts_of (b ∷ letters ++ rest) ≡ part [] (b ∷ letters) ∷ parts_of rest
letters_first b [] rest h stop = last_letter b rest (and_parts (is_ascii_alphabetic b) true h).0 stop
letters_first b (c ∷ letters) rest h stop =
    let both = and_parts (is_ascii_alphabetic b) _ h in
    ap (onto_parts b) (letters_first c letters rest both.1 stop) ∙ onto_letters b (c ∷ letters) (parts_of rest) both.0

-- bytes that are not letters join the first part after them
pub number_first : (number more letters rest : List ℕ) (parts : List Part) → has_no_letter number ≡ true → parts_of rest ≡ part more letters ∷ parts → parts_of (number ++ rest) ≡ part (number ++ more) letters ∷ parts
number_first [] more letters rest parts h e = e
number_first (b ∷ number) more letters rest parts h e =
    elim (is_ascii_alphabetic b) as (λ v. is_ascii_alphabetic b ≡ v → cond v false (has_no_letter number) ≡ true → parts_of (b ∷ number ++ rest) ≡ part (b ∷ number ++ more) letters ∷ parts) [
      | true ↦ λ letter none. cc
      | false ↦ λ other none. ap (onto_parts b) (number_first number more letters rest parts none e) ∙ onto_number b (number ++ more) letters parts other
    ] refl h

-- a number and the letters after it are the first part of a text that goes on with no letter
pub first_part : (number : List ℕ) (b : ℕ) (letters rest : List ℕ) → has_no_letter number ≡ true → list_all is_ascii_alphabetic (b ∷ letters) ≡ true → begins is_ascii_alphabetic rest ≡ false → parts_of (number ++ (b ∷ letters ++ rest)) ≡ part (number ++ []) (b ∷ letters) ∷ parts_of rest
first_part number b letters rest h k stop = number_first number [] (b ∷ letters) (b ∷ letters ++ rest) (parts_of rest) h (letters_first b letters rest k stop)
