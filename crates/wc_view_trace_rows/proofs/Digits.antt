-- The number of digits a number has.
use Rattle.std.proofs.Common.{ℕ, zero, suc, ◌*◌, ◌/◌, ◌<◌, ◌≤◌, ◌^◌, length, decimal, arith}
use Rattle.std.proofs.lemmas.Fmt.{decimal_step, decimal_nonempty}
use Rattle.std.proofs.lemmas.List.{length-append}

-- ten to that power
abbrev pub tens : ℕ → ℕ
tens zero = 1
tens (suc k) = 10 * tens k

tens_some : (k : ℕ) → 1 ≤ tens k
tens_some zero = omega arith
tens_some (suc k) = omega (arith, tens_some k)

pub more_than : (k n : ℕ) → tens k ≤ n → n < 2 ^ 64 → k < length (decimal n)
more_than zero n large fits = decimal_nonempty n fits
more_than (suc k) n large fits =
    let fewer : k < length (decimal (n / 10)) = more_than k (n / 10) (omega (arith, large)) (omega arith) in
    rw (decimal_step n (omega (arith, large, tens_some k)) fits) (omega (arith, length-append {A = ℕ}, fewer))
