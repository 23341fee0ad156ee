-- The tests of equality find equal things, and things are equal to themselves.
use Rattle.wc_model.proofs.Common.{◌≡◌, Bool, true, false, ◌&&◌, List, [], ◌∷◌, refl, ap, eq-eqb, eqb-true, bytes_eq-Decides}
use Rattle.wc_model.specs.Definitions.{same_name, DirectVariable, InputBit, StatusBit, Weight, OutputBit, OutputWord, Name, Location, Direct, Path, same_direct, same_path, same_place}

-- both halves of a conjunction
pub both-true : (a b : Bool) → (a && b) ≡ true → (a ≡ true) × (b ≡ true)
both-true true b e = (refl, e)
both-true false b e = cc

pub same_name-sound : (a b : Name) → same_name a b ≡ true → a ≡ b
same_name-sound a b e = (bytes_eq-Decides a b).0 e

pub same_name-refl : (a : Name) → same_name a a ≡ true
same_name-refl a = (bytes_eq-Decides a a).1 refl

pub same_path-sound : (a b : List Name) → same_path a b ≡ true → a ≡ b
same_path-sound [] [] e = refl
same_path-sound [] (y ∷ ys) e = cc
same_path-sound (x ∷ xs) [] e = cc
same_path-sound (x ∷ xs) (y ∷ ys) e =
    let h = both-true (same_name x y) (same_path xs ys) e in
    let p = same_name-sound x y h.0 in
    let q = same_path-sound xs ys h.1 in
    cc

pub same_path-refl : (a : List Name) → same_path a a ≡ true
same_path-refl [] = refl
same_path-refl (x ∷ xs) = rw (same_name-refl x) (same_path-refl xs)

pub same_direct-sound : (a b : DirectVariable) → same_direct a b ≡ true → a ≡ b
same_direct-sound (InputBit a) (InputBit b) e = ap InputBit (eqb-true a b e)
same_direct-sound (StatusBit a) (StatusBit b) e = ap StatusBit (eqb-true a b e)
same_direct-sound (Weight a) (Weight b) e = ap Weight (eqb-true a b e)
same_direct-sound (OutputBit a) (OutputBit b) e = ap OutputBit (eqb-true a b e)
same_direct-sound (OutputWord a) (OutputWord b) e = ap OutputWord (eqb-true a b e)
same_direct-sound a b e = cc

pub same_direct-refl : (a : DirectVariable) → same_direct a a ≡ true
same_direct-refl (InputBit a) = eq-eqb a a refl
same_direct-refl (StatusBit a) = eq-eqb a a refl
same_direct-refl (Weight a) = eq-eqb a a refl
same_direct-refl (OutputBit a) = eq-eqb a a refl
same_direct-refl (OutputWord a) = eq-eqb a a refl

pub same_place-sound : (a b : Location) → same_place a b ≡ true → a ≡ b
same_place-sound (Direct a) (Direct b) e = ap Direct (same_direct-sound a b e)
same_place-sound (Path a) (Path b) e = ap Path (same_path-sound a b e)
same_place-sound (Direct a) (Path b) e = cc
same_place-sound (Path a) (Direct b) e = cc
