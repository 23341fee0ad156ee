-- Exactly one number is the nearest.
use Rattle.wc_model.proofs.Common.{◌≡◌, ℕ, zero, suc, ◌+◌, ◌-◌, ◌*◌, ◌<◌, ◌≤◌, inl, inr, arith, mul-le-mul_right, cases_lt, ints, by_lt_z}
use Rattle.std.specs.Prelude.{ℤ, pos, negsuc, neg_ℤ, ◌<ℤ◌, unsigned_abs}
use borrow.Author.Differences.{up, down, neg_is}
use Rattle.wc_model.specs.Instrument.Rounding.{twice_distance, IsTie, IsNearest, nearest_above_zero, nearest, HasOneNearest}

-- a distance, over the natural numbers
twice_is : (num : ℤ) (span : ℕ) (k : ℤ) →
    twice_distance num span k ≡ 2 * ((up num + down k * span - (down num + up k * span)) + (down num + up k * span - (up num + down k * span)))
twice_is num span k = omega (arith, ints)

-- a greater number is a span farther up at least
a_span_above : (k q : ℤ) (span : ℕ) → k <ℤ q → up k * span + down q * span + span ≤ up q * span + down k * span
a_span_above k q span h =
    let above : suc (up k + down q) ≤ up q + down k = omega (arith, ints) in
    let scaled : suc (up k + down q) * span ≤ (up q + down k) * span = mul-le-mul_right span above in
    omega arith

-- two numbers as far from 0, one below the other, are more than a span apart
opposite_apart : (k q : ℤ) (span : ℕ) → 0 < span → k <ℤ q → unsigned_abs k ≡ unsigned_abs q →
    up k * span + down q * span + span < up q * span + down k * span
opposite_apart (pos a) (pos b) span h l e = absurd (omega (arith, ints))
opposite_apart (pos a) (negsuc b) span h l e = absurd (omega (arith, ints))
opposite_apart (negsuc a) (pos b) span h l e =
    let least : 1 * span ≤ suc a * span = mul-le-mul_right span (omega arith) in
    let same : suc a * span ≡ b * span = (λ i. e i * span) in
    omega arith
opposite_apart (negsuc a) (negsuc b) span h l e = absurd (omega (arith, ints))

-- of two numbers that are nearest, none is below the other
none_below : (num : ℤ) (span : ℕ) (k q : ℤ) → 0 < span → k <ℤ q → IsNearest num span k → IsNearest num span q → ⊥
none_below num span k q h l (inl a) (inl b) =
    omega (arith, twice_is num span k, twice_is num span q, a_span_above k q span l)
none_below num span k q h l (inl a) (inr b) =
    omega (arith, twice_is num span k, twice_is num span q, a_span_above k q span l, b.0)
none_below num span k q h l (inr a) (inl b) =
    omega (arith, twice_is num span k, twice_is num span q, a_span_above k q span l, a.0)
none_below num span k q h l (inr a) (inr b) =
    let as_far : unsigned_abs k ≡ unsigned_abs q = omega (arith, a.1 q b.0, b.1 k a.0) in
    omega (arith, twice_is num span k, twice_is num span q, opposite_apart k q span h l as_far, a.0, b.0)

-- two numbers that are nearest are one
pub one_nearest : (num : ℤ) (span : ℕ) (k q : ℤ) → 0 < span → IsNearest num span k → IsNearest num span q → k ≡ q
one_nearest num span k q h a b =
    by_lt_z k q (λ l. absurd (none_below num span k q h l a b))
    (λ l. by_lt_z q k (λ m. absurd (none_below num span q k h m b a)) (λ m. omega (arith, ints)))

-- the quotient lies from half a span below the number to half a span above
pub quotient_bounds : (n span : ℕ) → 0 < span →
    (2 * (nearest_above_zero n span * span) ≤ 2 * n + span) × (2 * n + span < 2 * (nearest_above_zero n span * span) + 2 * span)
quotient_bounds n span h = (omega arith, omega arith)

-- a number of spans that is no farther than half a span, and farther from 0 than the number if it is so far
nearest_by_bounds : (num : ℤ) (span : ℕ) (k : ℤ) → 0 < span → twice_distance num span k ≤ span →
    ((other : ℤ) → IsTie num span k → IsTie num span other → unsigned_abs other ≤ unsigned_abs k) → IsNearest num span k
nearest_by_bounds num span k h near far = elim (cases_lt (twice_distance num span k) span) [
  | inl less ↦ inl less
  | inr more ↦ let tie : twice_distance num span k ≡ span = omega arith in inr (tie, λ other t. far other tie t)
]

-- a tie above zero: no other tie is farther from 0
farthest_above : (n span q : ℕ) → 0 < span → 2 * n + span < 2 * (q * span) + 2 * span → (other : ℤ) →
    IsTie (pos n) span (pos q) → IsTie (pos n) span other → unsigned_abs other ≤ q
farthest_above n span q h b (pos j) t u = elim (cases_lt q j) [
  | inl l ↦
      let scaled : suc q * span ≤ j * span = mul-le-mul_right span l in
      absurd (omega (arith, twice_is (pos n) span (pos q), twice_is (pos n) span (pos j)))
  | inr l ↦ l
]
farthest_above n span q h b (negsuc j) t u = absurd (omega (arith, twice_is (pos n) span (negsuc j)))

-- a tie below zero: no other tie is farther from 0
farthest_below : (m span q : ℕ) → 0 < span → 2 * suc m + span < 2 * (q * span) + 2 * span → (other : ℤ) →
    IsTie (negsuc m) span (neg_ℤ (pos q)) → IsTie (negsuc m) span other → unsigned_abs other ≤ unsigned_abs (neg_ℤ (pos q))
farthest_below m span q h b (pos zero) t u = omega arith
farthest_below m span q h b (pos (suc j)) t u = absurd (omega (arith, twice_is (negsuc m) span (pos (suc j))))
farthest_below m span q h b (negsuc j) t u = elim (cases_lt q (suc j)) [
  | inl l ↦
      let scaled : suc q * span ≤ suc j * span = mul-le-mul_right span l in
      let k : ℤ = neg_ℤ (pos q) in
      let low : (up k ≡ 0) × (down k ≡ q) = neg_is (pos q) in
      let spans : down k * span ≡ q * span = (λ i. low.1 i * span) in
      let none : up k * span ≡ 0 * span = (λ i. low.0 i * span) in
      absurd (omega (arith, twice_is (negsuc m) span k, twice_is (negsuc m) span (negsuc j)))
  | inr l ↦ omega (arith, ints)
]

-- what `nearest` gives is nearest
pub nearest_is : (num : ℤ) (span : ℕ) → 0 < span → IsNearest num span (nearest num span)
nearest_is (pos n) span h =
    let q : ℕ = nearest_above_zero n span in
    let b : (2 * (q * span) ≤ 2 * n + span) × (2 * n + span < 2 * (q * span) + 2 * span) = quotient_bounds n span h in
    nearest_by_bounds (pos n) span (pos q) h (omega (arith, twice_is (pos n) span (pos q))) (λ other. farthest_above n span q h b.1 other)
nearest_is (negsuc m) span h =
    let q : ℕ = nearest_above_zero (suc m) span in
    let b : (2 * (q * span) ≤ 2 * suc m + span) × (2 * suc m + span < 2 * (q * span) + 2 * span) = quotient_bounds (suc m) span h in
    let k : ℤ = neg_ℤ (pos q) in
    let low : (up k ≡ 0) × (down k ≡ q) = neg_is (pos q) in
    let spans : down k * span ≡ q * span = (λ i. low.1 i * span) in
    let none : up k * span ≡ 0 * span = (λ i. low.0 i * span) in
    nearest_by_bounds (negsuc m) span k h (omega (arith, twice_is (negsuc m) span k)) (λ other. farthest_below m span q h b.1 other)

-- exactly one number is nearest
pub has_one_nearest : (num : ℤ) (span : ℕ) → 0 < span → HasOneNearest num span
has_one_nearest num span h = record {
  is_nearest = nearest_is num span h;
  no_other = λ k a. one_nearest num span k (nearest num span) h a (nearest_is num span h);
}
