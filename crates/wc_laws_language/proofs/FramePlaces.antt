-- The numbers of places in a frame: one place has one number, and no two have the same.
use Rattle.wc_model.proofs.Common.{◌≡◌, ℕ, suc, ◌+◌, ◌<◌, Bool, true, false, cond, List, [], ◌∷◌, length, Option, Some, refl, sym, ap, ◌∙◌, arith, slice_get, slice_get_within, position_from}
use Rattle.wc_model.specs.Definitions.{place_number, Location, Direct, Path, Content, same_place}
use Rattle.wc_laws_language.proofs.Tests.{same_place-sound, same_direct-refl, same_path-refl}

-- what a search finds: an element that passes, at that index
pub record Found {X : Type 0} (test : X → Bool) (start k : ℕ) (xs : List X) : Type 0 where
  pub index : ℕ
  pub item : X
  pub counted : k ≡ start + index
  pub represents : slice_get xs index ≡ Some item
  pub passes : test item ≡ true

pub position_found : {X : Type 0} (test : X → Bool) (start k : ℕ) (xs : List X) → position_from test start xs ≡ Some k → Found test start k xs
position_found test start k [] e = cc
position_found test start k (x ∷ xs) e = step (test x) refl e (λ f. position_found test (start + 1) k xs f)
  where
    later : Found test (start + 1) k xs → Found test start k (x ∷ xs)
    later f = record { index = suc f.index; item = f.item; counted = omega (arith, f.counted); represents = f.represents; passes = f.passes }

    step : (b : Bool) → test x ≡ b → cond b (Some start) (position_from test (start + 1) xs) ≡ Some k → (position_from test (start + 1) xs ≡ Some k → Found test (start + 1) k xs) → Found test start k (x ∷ xs)
    step true passes f onward = record { index = 0; item = x; counted = let same : start ≡ k = cc in omega (arith, same); represents = refl; passes = passes }
    step false fails f onward = later (onward f)

-- a place is the same as itself
pub same_place-refl : (a : Location) → same_place a a ≡ true
same_place-refl (Direct a) = same_direct-refl a
same_place-refl (Path a) = same_path-refl a

-- the entry with that number is the place's
pub place_found : (frame : List (Location × Content)) (place : Location) (k : ℕ) → place_number frame place ≡ Some k → (entry : Location × Content) × (slice_get frame k ≡ Some entry) × (entry.0 ≡ place)
place_found frame place k e =
    let f = position_found (λ (entry : Location × Content). same_place entry.0 place) 0 k frame e in
    let same : k ≡ f.index = omega (arith, f.counted) in
    (f.item, ap (slice_get frame) same ∙ f.represents, same_place-sound f.item.0 place f.passes)

-- no two places have one number
pub one_place : (frame : List (Location × Content)) (a b : Location) (k : ℕ) → place_number frame a ≡ Some k → place_number frame b ≡ Some k → a ≡ b
one_place frame a b k ea eb =
    let f = place_found frame a k ea in
    let g = place_found frame b k eb in
    let same : Some f.0 ≡ Some g.0 = sym f.1 ∙ g.1 in
    let entries : f.0 ≡ g.0 = cc in
    sym f.2 ∙ (ap (λ (entry : Location × Content). entry.0) entries ∙ g.2)

-- a number that a place has is one of the frame's
pub number_within : (frame : List (Location × Content)) (place : Location) (k : ℕ) → place_number frame place ≡ Some k → k < length frame
number_within frame place k e = let f = place_found frame place k e in slice_get_within frame k f.0 f.1

-- a place has one number
pub one_number : (o : Option ℕ) (j k : ℕ) → o ≡ Some j → o ≡ Some k → j ≡ k
one_number o j k a b = let same : Some j ≡ Some k = sym a ∙ b in cc
