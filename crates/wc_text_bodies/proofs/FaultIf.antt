-- A fault if a test holds, as it is reported.
use Rattle.std.proofs.Common.{◌≡◌, ℕ, Bool, true, false, Option, Some, None, option_map, not, if◌then◌else◌, refl}
use Rattle.std.specs.Prelude.{◌&&◌}
use Rattle.wc_laws_grammar.specs.Moves.{fault_if}
use Rattle.wc_model.specs.Text.ReadingFaults.{ReadingFault, TooMany, number_of}
use Rattle.wc_model.specs.declared.fault.Fault.{Fault}
use Rattle.wc_model.specs.declared.fault.Fault.TheVariants.{Refused}
use Rattle.wc_text_bodies.specs.Views.{fault_of}

-- the test comes before or after the report
pub reported-raised : (test : Bool) (fault : ReadingFault) (line : ℕ)
    → (if◌then◌else◌ {A = Option Fault} test (Some (Refused (number_of fault) line)) None) ≡ option_map fault_of (fault_if test fault line)
reported-raised true fault line = refl
reported-raised false fault line = refl

-- what is found at an operator if the unit is full
pub full-meets : (first full : Bool) (line : ℕ) → full ≡ true → (if◌then◌else◌ {A = Option Fault} first (Some (Refused 208 line)) None) ≡ option_map fault_of (fault_if (first && full) TooMany line)
full-meets true full line e = rw e refl
full-meets false full line e = refl

-- nothing is found if it is not
pub not-full-meets : (first full : Bool) (line : ℕ) → full ≡ false → None ≡ option_map fault_of (fault_if (first && full) TooMany line)
not-full-meets true full line e = rw e refl
not-full-meets false full line e = refl

-- nothing is found at a label
pub label-meets : (first full : Bool) (line : ℕ) → None ≡ option_map fault_of (fault_if (first && not true && full) TooMany line)
label-meets true full line = refl
label-meets false full line = refl

-- what is found where no colon follows
pub no-label-meets : (first full : Bool) (line : ℕ) → option_map fault_of (fault_if (first && full) TooMany line) ≡ option_map fault_of (fault_if (first && not false && full) TooMany line)
no-label-meets true full line = refl
no-label-meets false full line = refl
