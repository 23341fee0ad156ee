-- What is found of the bodies of a text, unit by unit.
use Rattle.wc_model.proofs.Common.{◌≡◌, ℕ, zero, suc, ◌+◌, List, [], ◌∷◌, ◌++◌, map, Some, drop, add-one, refl, ap, ◌∙◌, slice_get, flat_map}
use Rattle.wc_model.specs.Definitions.{body_rules, body_fault, scope_of_position, scopes_of, ProgramUnit, Text}
use Rattle.wc_model.specs.Language.Checks.{Check, Position, first_broken, positions_after}

-- where a list from an index on begins
first_there : {X : Type 0} (xs : List X) (i : ℕ) (y : X) (ys : List X) → drop i xs ≡ y ∷ ys → slice_get xs i ≡ Some y
first_there [] zero y ys e = absurd (cc)
first_there [] (suc i) y ys e = absurd (cc)
first_there (x ∷ xs) zero y ys e = cc
first_there (x ∷ xs) (suc i) y ys e = first_there xs i y ys e

rest_there : {X : Type 0} (xs : List X) (i : ℕ) (y : X) (ys : List X) → drop i xs ≡ y ∷ ys → drop (suc i) xs ≡ ys
rest_there [] zero y ys e = absurd (cc)
rest_there [] (suc i) y ys e = absurd (cc)
rest_there (x ∷ xs) zero y ys e = cc
rest_there (x ∷ xs) (suc i) y ys e = rest_there xs i y ys e

-- what is asked of a unit's body
abbrev pub unit_rules : Position ProgramUnit → List Check
unit_rules position = body_rules (record { before = position.before; unit = position.item })

-- nothing is broken before the units that are left, which are in the text from this number on
pub record UnitsLeft (all left : Text) (number : ℕ) : Type 0 where
  pub before : List ProgramUnit
  pub found : body_fault all ≡ first_broken (flat_map unit_rules (positions_after before left))
  pub there : drop number (scopes_of all) ≡ map scope_of_position (positions_after before left)

pub all_left : (all : Text) → UnitsLeft all all 0
all_left all = record { before = []; found = refl; there = refl }

-- the first of them
pub unit_there : (all left : Text) (unit : ProgramUnit) (number : ℕ) (h : UnitsLeft all (unit ∷ left) number) → slice_get (scopes_of all) number ≡ Some (record { before = h.before; unit = unit })
unit_there all left unit number h = first_there (scopes_of all) number (record { before = h.before; unit = unit }) (map scope_of_position (positions_after (unit ∷ h.before) left)) h.there

-- those after it
pub unit_passed : (all left : Text) (unit : ProgramUnit) (number : ℕ) (h : UnitsLeft all (unit ∷ left) number) →
    ((more : List Check) → first_broken (body_rules (record { before = h.before; unit = unit }) ++ more) ≡ first_broken more) → UnitsLeft all left (number + 1)
unit_passed all left unit number h passes =
    let next : number + 1 ≡ suc number = add-one number in
    record {
      before = unit ∷ h.before;
      found = h.found ∙ passes (flat_map unit_rules (positions_after (unit ∷ h.before) left));
      there = ap (λ n. drop n (scopes_of all)) next ∙ rest_there (scopes_of all) number (record { before = h.before; unit = unit }) (map scope_of_position (positions_after (unit ∷ h.before) left)) h.there;
    }
