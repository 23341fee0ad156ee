-- Why a text is not loaded. (The profile's own.)
use Rattle.std.specs.Prelude.{◌≡◌, ℕ, List}
use Rattle.wc_model.specs.Definitions.{IsLoaded, IsRefused, Text}
use Rattle.wc_model.specs.declared.fault.Fault.{Fault}
use Rattle.wc_model.specs.declared.fault.Fault.TheVariants.{Memory, Refused}

-- what a refusal says: the fault of the first pass that has one; out of memory says nothing
abbrev pub IsRefusedLoad : List ℕ → Fault → Type 0
IsRefusedLoad bytes (Refused number place) = IsRefused bytes number place
IsRefusedLoad bytes Memory = Unit {0}

-- the bytes of a text that is loaded have no refusal
abbrev pub IsNeverRefused : List ℕ → Type 0
IsNeverRefused bytes = (number line : ℕ) → ¬ (IsRefused bytes number line)

-- the bytes of a text that is refused are loaded as nothing, and have no other refusal
abbrev pub IsTheOnlyRefusal : List ℕ → Fault → Type 0
IsTheOnlyRefusal bytes (Refused number place) =
    ((text : Text) → ¬ (IsLoaded bytes text))
    × ((other line : ℕ) → IsRefused bytes other line → (other ≡ number) × (line ≡ place))
IsTheOnlyRefusal bytes Memory = Unit {0}
