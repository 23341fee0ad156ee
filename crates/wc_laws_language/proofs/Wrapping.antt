-- `wrap` gives the one number of 32 bits in a class modulo 2^32.
use Rattle.std.proofs.Common.{◌≡◌, ℕ, suc, ◌-◌, ◌/◌, ◌%◌, ◌<◌, ◌≤◌, ◌^◌, ℤ, pos, negsuc, ◌+ℤ◌, ◌*ℤ◌, FitsSigned, to_z, arith, ap, ◌∙◌, ⊎_elim}
use Rattle.wc_model.proofs.Common.{cases_lt, ints, SFits-int_wrap, to_z-neg, suc_ℤ-*ℤ}
use Rattle.std.specs.Int.{int_wrap, w32}
use lib.IntN.{suc_ℤ}
use Rattle.wc_model.specs.Language.Values.{IsWrapped, wrap}

-- two numbers of 32 bits in one class are one
pub IsWrapped-unique : (n v w : ℤ) → IsWrapped n v → IsWrapped n w → v ≡ w
IsWrapped-unique n v w a b = omega (arith, ints)

-- the bits from 2^31 on represent a negative number
pub to_z-high : (r : ℕ) → 2 ^ 31 ≤ r → r < 2 ^ 32 → to_z w32 r ≡ negsuc (2 ^ 32 - 1 - r)
to_z-high r high below =
    let same : r ≡ 2 ^ 32 - suc (2 ^ 32 - 1 - r) = omega arith in
    let small : 2 ^ 32 - 1 - r < 2 ^ 31 = omega arith in
    ap (to_z w32) same ∙ to_z-neg w32 (2 ^ 32 - 1 - r) small

-- a remainder as the bits of a number: the number itself, or one turn less
pub from_remainder : (n : ℤ) (r : ℕ) (q : ℤ) → FitsSigned w32 (to_z w32 r) → r < 2 ^ 32 → n ≡ pos r +ℤ q *ℤ pos (2 ^ 32) → IsWrapped n (to_z w32 r)
from_remainder n r q fits below e =
    ⊎_elim
    (λ low. record { fits = fits; turns = q; same_class = omega (arith, ints) })
    (λ high. record { fits = fits; turns = suc_ℤ q; same_class = omega (arith, ints, suc_ℤ-*ℤ q (pos (2 ^ 32)), to_z-high r high below) })
    (cases_lt r (2 ^ 31))

-- `wrap n` is one
pub wrap_is_wrapped : (n : ℤ) → IsWrapped n (wrap n)
unfolding int_wrap
wrap_is_wrapped (pos a) = from_remainder (pos a) (a % 2 ^ 32) (pos (a / 2 ^ 32)) (SFits-int_wrap w32 (pos a)) (omega arith) (omega (arith, ints))
wrap_is_wrapped (negsuc a) = from_remainder (negsuc a) (2 ^ 32 - 1 - a % 2 ^ 32) (negsuc (a / 2 ^ 32)) (SFits-int_wrap w32 (negsuc a)) (omega arith) (omega (arith, ints))
