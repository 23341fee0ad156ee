-- The number of a unit by places.
use Rattle.wc_model.proofs.Common.{◌≡◌, ℕ, ◌+◌, Bool, true, false, not, List, map, cond, refl, is_position_or_len, position_or_len}

turned : (b : Bool) (n : ℕ) → cond (not b) (1 + n) 0 ≡ cond b 0 (1 + n)
turned true n = refl
turned false n = refl

-- a place among what is made of some items is that among the items
pub position_mapped : {X Y : Type 0} (f : X → Y) (p : Y → Bool) (xs : List X) → position_or_len p (map f xs) ≡ position_or_len (λ x. p (f x)) xs
position_mapped f p xs = is_position_or_len (λ ys. position_or_len p (map f ys)) (λ x. p (f x)) refl (λ x ys. turned (p (f x)) (position_or_len p (map f ys))) xs
