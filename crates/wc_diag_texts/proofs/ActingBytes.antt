-- The bytes that begin a character on which a terminal would act: each of them belongs to it.
use Rattle.wc_model.proofs.Common.{◌≡◌, ℕ, ◌-◌, ◌<◌, ◌≤◌, Bool, true, false, refl, arith, and-false, nat_tests}
use Rattle.wc_diag_texts.specs.{acting_by, continues, four_act, length_of, three_act, two_act, is_from}

-- no test holds, if none of several bytes is of a character
not_two : (two three four : Bool) → length_of two three four ≡ 0 → two ≡ false
not_two true three four e = absurd (omega (arith, e))
not_two false three four e = refl

not_three : (two three four : Bool) → length_of two three four ≡ 0 → three ≡ false
not_three true three four e = absurd (omega (arith, e))
not_three false true four e = absurd (omega (arith, e))
not_three false false four e = refl

-- a byte with which no such character begins
below_not : (least greatest byte : ℕ) → byte < least → is_from least greatest byte ≡ false
below_not least greatest byte low = grind (arith, nat_tests)

pub plain_first : (first second third fourth : ℕ) → first < 194 → acting_by first second third fourth ≡ 0
plain_first first second third fourth low =
    rw (below_not 194 223 first low, below_not 224 239 first (omega (arith, low)), below_not 240 244 first (omega (arith, low))) refl

-- a byte that does not continue it, as the second, the third or the fourth
pub no_second : (first second third fourth : ℕ) → continues second ≡ false → acting_by first second third fourth ≡ 0
no_second first second third fourth not = simp (not, and-false)

pub no_third : (first second other further third fourth : ℕ) → acting_by first second other further ≡ 0 → continues third ≡ false → acting_by first second third fourth ≡ 0
no_third first second other further third fourth silent not =
    simp (not_two (two_act first second) (three_act first second other) (four_act first second other further) silent, not, and-false)

pub no_fourth : (first second third other fourth : ℕ) → acting_by first second third other ≡ 0 → continues fourth ≡ false → acting_by first second third fourth ≡ 0
no_fourth first second third other fourth silent not =
    simp (
      not_two (two_act first second) (three_act first second third) (four_act first second third other) silent,
      not_three (two_act first second) (three_act first second third) (four_act first second third other) silent,
      not,
      and-false,
    )

-- so neither does one of ASCII, nor one that begins a character
pub ascii_not : (byte : ℕ) → byte < 128 → continues byte ≡ false
ascii_not byte low = grind (arith, nat_tests)

pub begin_not : (byte : ℕ) → (128 ≤ byte → 192 ≤ byte) → continues byte ≡ false
begin_not byte begins = grind (arith, nat_tests)
