-- The positions of a list by their numbers, and where the items of a call's list are.
use Rattle.wc_model.proofs.Common.{◌≡◌, ℕ, zero, suc, ◌+◌, ◌<◌, ◌≤◌, min, Bool, true, false, List, [], ◌∷◌, length, Option, Some, None, refl, sym, ap, arith, slice_get_within}
use Rattle.std.specs.Prelude.{if◌then◌else◌, option_map, slice_get}
use Rattle.wc_diag_places.specs.OperandTokens.{is_point}
use Rattle.wc_diag_places.specs.Lists.{item_at, mark_after, value_end}
use Rattle.wc_lexer.specs.declared.shape.Token.{Token}
use Rattle.wc_model.specs.Language.Checks.{Position, positions_after, positions_of}
use Rattle.wc_names.proofs.Lists.{found_within}

-- an item before one that is there
pub earlier_there : {X : Type 0} (xs : List X) (j k : ℕ) (x : X) → slice_get xs k ≡ Some x → j < k → (y : X) × (slice_get xs j ≡ Some y)
earlier_there xs j k x there below = found_within xs j (let within = slice_get_within xs k x there in omega (arith, below, within))

-- the item of a position
pub item_there : {X : Type 0} (before xs : List X) (k : ℕ) (p : Position X) → slice_get (positions_after before xs) k ≡ Some p → slice_get xs k ≡ Some p.item
item_there before [] k p there = absurd (cc)
item_there before (x ∷ xs) zero p there = ap (option_map (λ (q : Position _). q.item)) there
item_there before (x ∷ xs) (suc k) p there = item_there (x ∷ before) xs k p there

-- those before a position that may be there
abbrev before_of : {X : Type 0} → Option (Position X) → List X
before_of None = []
before_of (Some p) = p.before

-- before the first position there is nothing
pub first_before : {X : Type 0} (xs : List X) (p : Position X) → slice_get (positions_of xs) 0 ≡ Some p → p.before ≡ []
first_before [] p there = absurd (cc)
first_before (x ∷ xs) p there = sym (ap before_of there)

-- and before the next one those before this one, and this one
pub record IsAfter {X : Type 0} (before xs : List X) (k : ℕ) (p : Position X) : Type 0 where
  pub previous : Position X
  pub there : slice_get (positions_after before xs) k ≡ Some previous
  pub before_is : p.before ≡ previous.item ∷ previous.before

pub previous_of : {X : Type 0} (before xs : List X) (k : ℕ) (p : Position X) → slice_get (positions_after before xs) (suc k) ≡ Some p → IsAfter before xs k p
previous_of before [] k p there = absurd (cc)
previous_of before (x ∷ []) zero p there = absurd (cc)
previous_of before (x ∷ y ∷ xs) zero p there =
    record { previous = record { before = before; item = x; following = y ∷ xs }; there = refl; before_is = sym (ap before_of there) }
previous_of before (x ∷ xs) (suc k) p there =
    let h = previous_of (x ∷ before) xs k p there in
    record { previous = h.previous; there = h.there; before_is = h.before_is }

-- an index goes ahead
mark_ahead : (tokens : List Token) (index : ℕ) → min (index + 1) (length tokens) ≤ mark_after tokens index
unfolding mark_after
mark_ahead tokens index = omega arith

-- from an index that is so far, or past the end
step : (tokens : List Token) (n index : ℕ) → min n (length tokens) ≤ index → min n (length tokens) ≤ mark_after tokens index
step tokens n index far = let ahead = mark_ahead tokens index in omega (arith, far, ahead)

-- a value ends no earlier
end_far : (tokens : List Token) (n value : ℕ) → min n (length tokens) ≤ value → min n (length tokens) ≤ value_end tokens value
end_far tokens n value far = by (is_point (slice_get tokens (mark_after tokens value)))
  where
    by : (point : Bool) → min n (length tokens) ≤ (if point then mark_after tokens (mark_after tokens value) else value)
    by true = step tokens n (mark_after tokens value) (step tokens n value far)
    by false = far

-- the mark after an item is no earlier than its name
after_name : (tokens : List Token) (n name : ℕ) → min n (length tokens) ≤ name
    → min n (length tokens) ≤ mark_after tokens (value_end tokens (mark_after tokens (mark_after tokens name)))
after_name tokens n name far =
    step tokens n (value_end tokens (mark_after tokens (mark_after tokens name)))
    (end_far tokens n (mark_after tokens (mark_after tokens name)) (step tokens n (mark_after tokens name) (step tokens n name far)))

end_after : (tokens : List Token) (n k : ℕ) → min n (length tokens) ≤ (item_at tokens k).name → min n (length tokens) ≤ (item_at tokens k).end
unfolding item_at
end_after tokens n zero far = after_name tokens n (mark_after tokens 2) far
end_after tokens n (suc k) far = after_name tokens n (mark_after tokens (item_at tokens k).end) far

pub item_far : (tokens : List Token) (k : ℕ) → min (k + 3) (length tokens) ≤ (item_at tokens k).name
unfolding item_at
item_far tokens zero = mark_ahead tokens 2
item_far tokens (suc k) =
    let far = end_after tokens (k + 3) k (item_far tokens k) in
    let ahead = mark_ahead tokens (item_at tokens k).end in
    omega (arith, ahead, far)
