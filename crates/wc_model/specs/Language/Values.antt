-- Values of BOOL, DINT and TIME (IEC 61131-3:2003, 2.3.1). That results wrap to 32 bits is the profile's own.
use Rattle.std.specs.Prelude.{◌≡◌, ℤ, pos, ◌+ℤ◌, ◌*ℤ◌, ◌^◌, FitsSigned}
use Rattle.std.specs.Int.{int_wrap, w32}

-- w has 32 bits and differs from n by a multiple of 2^32
pub record IsWrapped (n w : ℤ) : Type 0 where
  pub fits : FitsSigned w32 w
  pub turns : ℤ
  pub same_class : n ≡ w +ℤ turns *ℤ pos (2 ^ 32)

-- the one number of 32 bits that equals n modulo 2^32
abbrev pub wrap : ℤ → ℤ
wrap n = int_wrap w32 n
