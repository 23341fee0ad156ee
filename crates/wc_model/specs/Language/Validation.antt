-- What a pass answers against the rules that it asks. (No rule of the language.)
use Rattle.std.specs.Prelude.{◌≡◌, Option, Some, Result, Ok, Err}
use Rattle.wc_model.specs.Language.Checks.{Refusal}
use Rattle.wc_model.specs.declared.fault.Fault.{Fault}
use Rattle.wc_model.specs.declared.fault.Fault.TheVariants.{Refused, Memory}

-- what was found first is a refusal; or nothing was found, and what comes first is what comes first in the rest
abbrev pub Validates : {X : Type 0} → Option Refusal → Option Refusal → Result X Fault → Type 0
Validates found rest (Ok x) = found ≡ rest
Validates found rest (Err (Refused number place)) = found ≡ Some (record { number = number; line = place })
Validates found rest (Err Memory) = Unit {0}
