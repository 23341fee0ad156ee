-- Counts and units in the code's numbers: no product and no difference leaves them.
use Rattle.wc_model.proofs.Common.{◌≡◌, ℕ, zero, suc, ◌*◌, ◌^◌, ◌<◌, ◌≤◌, Bool, true, false, cond, ◌||◌, ◌==◌, List, [], ◌∷◌, length, refl, arith, to_z, of_z, w32, w64, FitsSigned, mul-le-mul_right, and_parts, leb-true, ints, unsigned_abs-mul, list_all}
use Rattle.std.specs.Prelude.{ℤ, pos, ◌-ℤ◌, ◌*ℤ◌, unsigned_abs, nat_le, slice_index_or, Option, Some, None, IfSome, unwrap_or}
use Rattle.wc_model.specs.Instrument.Plates.{PlateData, IsPlate}
use Rattle.wc_indicator.specs.Kept.{IsCount, IsDifference}

-- an item of a list whose items are all at most 50
item_at : (xs : List ℕ) (k e : ℕ) → list_all (λ x. nat_le x 50) xs ≡ true → k < length xs → slice_index_or xs k e ≡ e → e ≤ 50
item_at [] k e h l s = absurd (omega arith)
item_at (x ∷ xs) zero e h l s =
    let parts : (nat_le x 50 ≡ true) × (list_all (λ y. nat_le y 50) xs ≡ true) = and_parts (nat_le x 50) (list_all (λ y. nat_le y 50) xs) h in
    let low : x ≤ 50 = leb-true x 50 parts.0 in
    omega arith
item_at (x ∷ xs) (suc k) e h l s =
    let parts : (nat_le x 50 ≡ true) × (list_all (λ y. nat_le y 50) xs ≡ true) = and_parts (nat_le x 50) (list_all (λ y. nat_le y 50) xs) h in
    item_at xs k e parts.1 (omega arith) s

-- the intervals of either list
either_list : (b : Bool) → list_all (λ x. nat_le x 50) (cond b (1 ∷ 2 ∷ 5 ∷ 10 ∷ 20 ∷ 50 ∷ []) (1 ∷ 2 ∷ 5 ∷ [])) ≡ true
either_list true = refl
either_list false = refl

-- a scale interval is 50 at most
pub few_units : (p : PlateData) → IsPlate p → p.e ≤ 50
few_units p h =
    item_at (cond (p.decimals == 0 || p.decimals == 3) (1 ∷ 2 ∷ 5 ∷ 10 ∷ 20 ∷ 50 ∷ []) (1 ∷ 2 ∷ 5 ∷ [])) h.allowed.0 p.e
    (either_list (p.decimals == 0 || p.decimals == 3)) h.allowed.1 h.allowed.2

-- intervals times units
product_small : (i : ℤ) (e : ℕ) → unsigned_abs i ≤ 2 ^ 25 → e ≤ 50 → unsigned_abs (i *ℤ pos e) < 2 ^ 31
product_small i e a b =
    let size : unsigned_abs (i *ℤ pos e) ≡ unsigned_abs i * e = unsigned_abs-mul i (pos e) in
    let bound : unsigned_abs i * e ≤ 2 ^ 25 * e = mul-le-mul_right e a in
    omega arith

-- a number that fits keeps its value
fits : (z : ℤ) → unsigned_abs z < 2 ^ 31 → to_z w32 (of_z w32 (to_z w64 (of_z w64 z))) ≡ z
fits z h = omega (arith, ints)

-- the code's factors keep their values
raw_product : (i f : ℤ) (e : ℕ) → unsigned_abs i ≤ 2 ^ 25 → e ≤ 50 → f ≡ pos e →
    to_z w64 (of_z w64 i) *ℤ to_z w64 (of_z w64 f) ≡ i *ℤ pos e
raw_product i f e a b h =
    let raw_i : to_z w64 (of_z w64 i) ≡ i = omega (arith, ints) in
    let raw_f : to_z w64 (of_z w64 f) ≡ pos e = omega (arith, ints) in
    rw (raw_i, raw_f) refl

-- the product of the code's factors fits
pub product_fits : (i f : ℤ) (e : ℕ) → unsigned_abs i ≤ 2 ^ 25 → e ≤ 50 → f ≡ pos e →
    FitsSigned w64 (to_z w64 (of_z w64 i) *ℤ to_z w64 (of_z w64 f))
product_fits i f e a b h =
    let small : unsigned_abs (i *ℤ pos e) < 2 ^ 31 = product_small i e a b in
    rw (raw_product i f e a b h) (omega (arith, ints, small))

-- and so it does in the width of a weight
pub units_fit : (i f : ℤ) (e : ℕ) → unsigned_abs i ≤ 2 ^ 25 → e ≤ 50 → f ≡ pos e →
    FitsSigned w32 (to_z w64 (of_z w64 (to_z w64 (of_z w64 i) *ℤ to_z w64 (of_z w64 f))))
units_fit i f e a b h =
    let small : unsigned_abs (i *ℤ pos e) < 2 ^ 31 = product_small i e a b in
    rw (raw_product i f e a b h) (omega (arith, ints, small))

-- intervals in units
pub units_kept : (i f : ℤ) (e : ℕ) → unsigned_abs i ≤ 2 ^ 25 → e ≤ 50 → f ≡ pos e →
    to_z w32 (of_z w32 (to_z w64 (of_z w64 (to_z w64 (of_z w64 i) *ℤ to_z w64 (of_z w64 f))))) ≡ i *ℤ pos e
units_kept i f e a b h =
    let raw_i : to_z w64 (of_z w64 i) ≡ i = omega (arith, ints) in
    let raw_f : to_z w64 (of_z w64 f) ≡ pos e = omega (arith, ints) in
    rw (raw_i, raw_f) (fits (i *ℤ pos e) (product_small i e a b))

-- a difference
pub difference_kept : (u z a b : ℤ) → IsDifference u → IsDifference z → u ≡ a → z ≡ b →
    to_z w32 (of_z w32 (to_z w32 (of_z w32 u) -ℤ to_z w32 (of_z w32 z))) ≡ a -ℤ b
difference_kept u z a b m n g h = omega (arith, ints)

-- and its range
pub difference_range : (u z : ℤ) → IsCount u → IsCount z → IsDifference (to_z w32 (of_z w32 (to_z w32 (of_z w32 u) -ℤ to_z w32 (of_z w32 z))))
difference_range u z m n = omega (arith, ints)

-- a value if there is one, else another
pub either_range : (o : Option ℤ) (z : ℤ) → IfSome o IsCount → IsCount z → IsCount (unwrap_or o z)
either_range None z h m = m
either_range (Some x) z h m = h
