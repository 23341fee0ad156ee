-- Rounding to whole intervals. A digital indication shows a whole number of scale intervals (OIML R 76-1:2006, 4.2.2);
-- that a tie goes away from zero is the profile's own.
use Rattle.std.specs.Prelude.{◌≡◌, ℕ, suc, ◌+◌, ◌*◌, ◌/◌, ◌<◌, ◌≤◌, ◌⊎◌, ℤ, pos, negsuc, ◌-ℤ◌, ◌*ℤ◌, neg_ℤ, unsigned_abs}

-- twice the distance from num to k spans
abbrev pub twice_distance : ℤ → ℕ → ℤ → ℕ
twice_distance num span k = 2 * unsigned_abs (num -ℤ k *ℤ pos span)

-- num lies halfway between k spans and a neighbour of theirs
abbrev pub IsTie : ℤ → ℕ → ℤ → Type 0
IsTie num span k = twice_distance num span k ≡ span

-- k is the whole number nearest to num / span: less than half a span off, or the one of a tie that is farther from 0
abbrev pub IsNearest : ℤ → ℕ → ℤ → Type 0
IsNearest num span k =
    (twice_distance num span k < span)
    ⊎ (IsTie num span k × ((other : ℤ) → IsTie num span other → unsigned_abs other ≤ unsigned_abs k))

-- n / span to the nearest, a tie upward
abbrev pub nearest_above_zero : ℕ → ℕ → ℕ
nearest_above_zero n span = (2 * n + span) / (2 * span)

-- the whole number nearest to num / span, a tie away from zero
abbrev pub nearest : ℤ → ℕ → ℤ
nearest (pos n) span = pos (nearest_above_zero n span)
nearest (negsuc n) span = neg_ℤ (pos (nearest_above_zero (suc n) span))

-- `nearest` is nearest, and no other number is
pub record HasOneNearest (num : ℤ) (span : ℕ) : Type 0 where
  pub is_nearest : IsNearest num span (nearest num span)
  pub no_other : (k : ℤ) → IsNearest num span k → k ≡ nearest num span
