-- Names that are declared so far.
use Rattle.wc_model.proofs.Common.{◌≡◌, Bool, true, false, List, [], ◌∷◌, ◌++◌, map, append_assoc, refl, sym, ap, subst, ◌∙◌, list_any-append, flat_map}
use Rattle.std.specs.Prelude.{◌||◌}
use Rattle.wc_model.specs.Language.Checks.{Check, Position, first_broken, positions_after}
use Rattle.wc_model.specs.Definitions.{is_among, is_new, name_of_word, not_reserved, same_name, Name, Word}
use Rattle.wc_names.specs.{same_name_laws, AreDifferent}
use Rattle.wc_declare.specs.SoFar.{SameNames}

pub or_last : (a b : Bool) → (a || (b || false)) ≡ (b || a)
or_last true true = refl
or_last true false = refl
or_last false true = refl
or_last false false = refl

-- one more name, after those of a list or before others
pub one_more : (own known : List Name) (new : Name) → SameNames own known → SameNames (own ++ new ∷ []) (new ∷ known)
one_more own known new same = λ name.
    list_any-append (same_name name) own (new ∷ []) ∙ or_last (is_among own name) (same_name name new) ∙ ap (λ b. same_name name new || b) (same name)

pub neither : (a b : Bool) → (a || b) ≡ false → (a ≡ false) × (b ≡ false)
neither true b e = cc
neither false b e = (refl, e)

not_last : (a b : Bool) → a ≡ false → b ≡ false → (a || (b || false)) ≡ false
not_last a b p q = rw p (rw q refl)

-- one more name that is new leaves all different
pub still_different : (own : List Name) (new : Name) → AreDifferent own → is_among own new ≡ false → AreDifferent (own ++ new ∷ [])
still_different [] new h e = (refl, tt)
still_different (x ∷ own) new h e =
    let parts = neither (same_name new x) (is_among own new) e in (
      list_any-append (same_name x) own (new ∷ []) ∙ not_last (is_among own x) (same_name x new) h.0 (sym (same_name_laws.symm new x) ∙ parts.0),
      still_different own new h.1 parts.1,
    )

-- the rules of each name after others
abbrev pub name_checks : List Name → Position Word → List Check
name_checks names position = not_reserved position.item ∷ is_new (map name_of_word position.before ++ names) position.item ∷ []

-- what follows the names so far, newest first: what is found first is found in the words that are left, the names so far
-- are held, and with those that are left they are all
pub record IsAfterRecords (start own : List Name) (all left : List Word) : Type 0 where
  pub before : List Word
  pub found : (known : List Name) (rest : List Check) → SameNames start known → first_broken (flat_map (name_checks known) (positions_after [] all) ++ rest) ≡ first_broken (flat_map (name_checks known) (positions_after before left) ++ rest)
  pub held : (known : List Name) → SameNames start known → SameNames own (map name_of_word before ++ known)
  pub joined : own ++ map name_of_word left ≡ start ++ map name_of_word all
  pub different : AreDifferent start → AreDifferent own

pub at_first : (start : List Name) (all : List Word) → IsAfterRecords start start all all
at_first start all = record { before = []; found = λ known rest same. refl; held = λ known same. same; joined = refl; different = λ h. h }

pub one_after : (start own new : List Name) (all : List Word) (word : Word) (left : List Word) → IsAfterRecords start own all (word ∷ left) →
    ((known : List Name) (rest : List Check) → SameNames own known → first_broken (not_reserved word ∷ is_new known word ∷ rest) ≡ first_broken rest) →
    new ≡ own ++ word.name ∷ [] → is_among own word.name ≡ false → IsAfterRecords start new all left
one_after start own new all word left h passes added fresh = record {
  before = word ∷ h.before;
  found = λ known rest same.
      h.found known rest same ∙ passes (map name_of_word h.before ++ known) (flat_map (name_checks known) (positions_after (word ∷ h.before) left) ++ rest) (h.held known same);
  held = λ known same name. ap (λ names. is_among names name) added ∙ one_more own (map name_of_word h.before ++ known) word.name (h.held known same) name;
  joined = ap (λ names. names ++ map name_of_word left) added ∙ append_assoc own (word.name ∷ []) (map name_of_word left) ∙ h.joined;
  different = λ d. subst AreDifferent (sym added) (still_different own word.name (h.different d) fresh);
}
