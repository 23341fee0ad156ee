-- The names of plain variables, as they are spelled, while declarations are checked.
use Rattle.std.proofs.Common.{◌≡◌, ℕ, Bool, true, false, List, [], ◌∷◌, ◌++◌, refl, ap, sym, ◌∙◌, append_assoc, append-nil}
use Rattle.wc_model.specs.declared.operand.Word.{Word}
use Rattle.wc_names.specs.Spelled.{spelled_where}

-- names, and those that are left, are names before, and all of them
abbrev pub AreSpelledOn : (old now left all : List (List ℕ)) → Type 0
AreSpelledOn old now left all = now ++ left ≡ old ++ all

-- the first of those that are left come after the names
pub spelled_on : (old now new prefix left all : List (List ℕ)) → AreSpelledOn old now (prefix ++ left) all → new ≡ now ++ prefix → AreSpelledOn old new left all
spelled_on old now new prefix left all h e = ap (λ xs. xs ++ left) e ∙ append_assoc now prefix left ∙ h

-- none is left
pub spelled_all : (old now left all : List (List ℕ)) → left ≡ [] → AreSpelledOn old now left all → now ≡ old ++ all
spelled_all old now left all none h = sym (append-nil now) ∙ ap (λ xs. now ++ xs) (sym none) ∙ h

-- a word, and the words after it
pub where_more : (plain : Bool) (word : Word) (words : List Word) → spelled_where plain (word ∷ words) ≡ spelled_where plain (word ∷ []) ++ spelled_where plain words
where_more true word words = refl
where_more false word words = refl

-- no words
pub where_none : (plain : Bool) → spelled_where plain [] ≡ []
where_none true = refl
where_none false = refl

-- the names of units are these so far
abbrev pub AreNamedOn : (old now left all : List (List (List ℕ))) → Type 0
AreNamedOn old now left all = now ++ left ≡ old ++ all

pub named_on : (old now new : List (List (List ℕ))) (unit : List (List ℕ)) (left all : List (List (List ℕ))) → AreNamedOn old now (unit ∷ left) all → new ≡ now ++ unit ∷ [] → AreNamedOn old new left all
named_on old now new unit left all h e = ap (λ xs. xs ++ left) e ∙ append_assoc now (unit ∷ []) left ∙ h

pub named_all : (old now left all : List (List (List ℕ))) → left ≡ [] → AreNamedOn old now left all → now ≡ old ++ all
named_all old now left all none h = sym (append-nil now) ∙ ap (λ xs. now ++ xs) (sym none) ∙ h
