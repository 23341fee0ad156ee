-- Rounding in whole numbers, by the magnitude and the sign.
use Rattle.wc_model.proofs.Common.{◌≡◌, ℕ, zero, suc, ◌+◌, ◌*◌, ◌<◌, ◌≤◌, inl, inr, refl, ap, sym, ◌∙◌, arith, mul-le-mul_right, mul-le-mul_left, div-eq_of_lt, cases_lt, ints}
use Rattle.std.specs.Prelude.{ℤ, pos, negsuc, neg_ℤ, ◌<ℤ◌, ◌*ℤ◌, unsigned_abs}
use Rattle.wc_model.specs.Instrument.Rounding.{nearest, nearest_above_zero}
use Rattle.wc_laws_instrument.proofs.Rounding.{quotient_bounds}

-- no more intervals than counts, if an interval has a count or more
pub no_more : (c n span : ℕ) → 0 < span → n ≤ span → nearest_above_zero (c * n) span ≤ c
no_more c n span h l = elim (cases_lt c (nearest_above_zero (c * n) span)) [
  | inl more ↦
      let q : ℕ = nearest_above_zero (c * n) span in
      let bounds : (2 * (q * span) ≤ 2 * (c * n) + span) × (2 * (c * n) + span < 2 * (q * span) + 2 * span) = quotient_bounds (c * n) span h in
      let scaled : suc c * span ≤ q * span = mul-le-mul_right span more in
      let amount : c * n ≤ c * span = mul-le-mul_left c l in
      absurd (omega arith)
  | inr less ↦ less
]

-- the nearest below zero
nearest_neg : (m span : ℕ) → 0 < span → nearest (neg_ℤ (pos m)) span ≡ neg_ℤ (pos (nearest_above_zero m span))
nearest_neg zero span h =
    let none : nearest_above_zero 0 span ≡ 0 = div-eq_of_lt (omega arith) in
    ap pos none ∙ sym (ap (λ q. neg_ℤ (pos q)) none)
nearest_neg (suc m) span h = refl

-- counts below zero
pub below_zero : (counts : ℤ) (n span d : ℕ) → 0 < span → counts <ℤ pos 0 → d ≡ nearest_above_zero (unsigned_abs counts * n) span →
    neg_ℤ (pos d) ≡ nearest (counts *ℤ pos n) span
below_zero (pos c) n span d h l e = absurd (omega (arith, ints))
below_zero (negsuc c) n span d h l e = ap (λ q. neg_ℤ (pos q)) e ∙ sym (nearest_neg (suc c * n) span h)
