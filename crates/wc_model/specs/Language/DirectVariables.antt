-- Directly represented variables (IEC 61131-3:2003, 2.4.1.1, table 15); which there are is the profile's own.
use Rattle.std.specs.Prelude.{ℕ, zero, suc, ◌+◌, ◌/◌, ◌%◌, nat_lt, if◌then◌else◌, Bool, true, false, List, [], ◌∷◌, ◌++◌, map, Option, find, codes, bytes_eq}
use Rattle.std.specs.List.{list_any}
use Rattle.wc_model.specs.Language.Names.{Name}
use Rattle.wc_model.specs.declared.kind.Kind.{Kind}
use Rattle.wc_model.specs.declared.kind.Kind.TheVariants.{Bool as KindBool, Dint as KindDint}

-- `%IX0.i`, an input; `%IX1.i`, a status bit of the indicator; `%IDi`, a weight; `%QX0.i` and `%QDi`, outputs
pub data DirectVariable : Type 0 where
  InputBit : (bit : ℕ) → DirectVariable
  StatusBit : (bit : ℕ) → DirectVariable
  Weight : (number : ℕ) → DirectVariable
  OutputBit : (bit : ℕ) → DirectVariable
  OutputWord : (number : ℕ) → DirectVariable

-- 0 to n - 1
abbrev pub numbers_below : ℕ → List ℕ
numbers_below zero = []
numbers_below (suc n) = numbers_below n ++ n ∷ []

-- the 45 variables that there are
abbrev pub direct_variables : List DirectVariable
direct_variables = map InputBit (numbers_below 16) ++ map StatusBit (numbers_below 6) ++ map Weight (numbers_below 3) ++ map OutputBit (numbers_below 16) ++ map OutputWord (numbers_below 4)

-- a number below 100 in decimal digits, with no leading zero
abbrev pub numeral : ℕ → List ℕ
numeral n = if nat_lt n 10 then (48 + n) ∷ [] else (48 + n / 10) ∷ (48 + n % 10) ∷ []

-- how each is written, in small letters: a bit with X or without
abbrev pub spellings : DirectVariable → List Name
spellings (InputBit bit) = (codes "%ix0." ++ numeral bit) ∷ (codes "%i0." ++ numeral bit) ∷ []
spellings (StatusBit bit) = (codes "%ix1." ++ numeral bit) ∷ (codes "%i1." ++ numeral bit) ∷ []
spellings (Weight number) = (codes "%id" ++ numeral number) ∷ []
spellings (OutputBit bit) = (codes "%qx0." ++ numeral bit) ∷ (codes "%q0." ++ numeral bit) ∷ []
spellings (OutputWord number) = (codes "%qd" ++ numeral number) ∷ []

-- the variable that an address names
abbrev pub variable_at : Name → Option DirectVariable
variable_at address = find (λ v. list_any (bytes_eq address) (spellings v)) direct_variables

-- a bit is a BOOL, a word a DINT
abbrev pub kind_of_direct : DirectVariable → Kind
kind_of_direct (InputBit bit) = KindBool
kind_of_direct (StatusBit bit) = KindBool
kind_of_direct (Weight number) = KindDint
kind_of_direct (OutputBit bit) = KindBool
kind_of_direct (OutputWord number) = KindDint

-- outputs may be written
abbrev pub is_output : DirectVariable → Bool
is_output (InputBit bit) = false
is_output (StatusBit bit) = false
is_output (Weight number) = false
is_output (OutputBit bit) = true
is_output (OutputWord number) = true
