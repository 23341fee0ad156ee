-- A text that the passes before this one accept, and what this one says of it. (No rule of the language.)
use Rattle.std.specs.Prelude.{◌≡◌, ℕ, ◌<◌, ◌≤◌, List, length, None, Some, Result, Ok, Err}
use Rattle.std.proofs.Common.{Vec, Global}
use Rattle.wc_text_flat.specs.{sources_of, worst_of, AreLowered, IsLowered, AreBoundsBelow}
use Rattle.wc_model.specs.Definitions.{MOST_STEPS, IsCostFault, body_fault, declaration_fault, Scope, Text, Spells, IsWithinLimits, Mark, most_bytes}
use Rattle.wc_model.specs.declared.code.Code.{Code}
use Rattle.wc_model.specs.declared.fault.Fault.{Fault}
use Rattle.wc_model.specs.declared.fault.Fault.TheVariants.{Refused, Memory}
use Rattle.wc_cost.specs.LoadedInside.{AreLines, bounds_of, codes_of}
use Rattle.wc_cost.specs.PathLengths.{AreSmall}
use Rattle.wc_cost.specs.declared.units.LoweredUnit.{LoweredUnit}

-- some tokens, no more than a text has bytes, spell this text within the limits; what their lines are is not asked
pub record IsSpelled (text : Text) : Type 0 where
  pub tokens : List Mark
  pub few : length tokens ≤ most_bytes
  pub spelled : Spells tokens text
  pub within_limits : IsWithinLimits text

-- it is spelled, and breaks no rule on declarations and bodies
pub record IsFaultless (text : Text) : Type 0 where
  pub read : IsSpelled text
  pub declared : declaration_fault text ≡ None
  pub sound : body_fault text ≡ None

-- a unit is lowered, and its bound is the length of its worst path
pub record IsMeasured (bounds : List ℕ) (scope : Scope) (lowered : LoweredUnit) : Type 0 where
  pub code : IsLowered scope scope.unit.body lowered.code.items
  pub lines : lowered.lines.items ≡ sources_of scope.unit.body
  pub bound : lowered.bound ≡ (worst_of bounds lowered.code.items (sources_of scope.unit.body)).steps
  pub small : lowered.bound ≤ MOST_STEPS

-- or its worst path is too long
pub record IsOverrun (bounds : List ℕ) (scope : Scope) (number place : ℕ) : Type 0 where
  pub code : List Code
  pub lowered : IsLowered scope scope.unit.body code
  pub long : MOST_STEPS < (worst_of bounds code (sources_of scope.unit.body)).steps
  pub number_is : number ≡ 411
  pub place_is : place ≡ scope.unit.line

abbrev pub MeasuresUnit : List ℕ → Scope → Result LoweredUnit Fault → Type 0
MeasuresUnit bounds scope (Ok lowered) = IsMeasured bounds scope lowered
MeasuresUnit bounds scope (Err (Refused number place)) = IsOverrun bounds scope number place
MeasuresUnit bounds scope (Err Memory) = Unit {0}

-- the units of a text are lowered, and no path is too long
pub record AreLoaded (text : Text) (units : List LoweredUnit) : Type 0 where
  pub lowered : AreLowered text (codes_of units)
  pub lines : AreLines text units
  pub bounds : AreBoundsBelow text (codes_of units) (bounds_of units) (length units)
  pub small : AreSmall (bounds_of units)
  pub costs : IsCostFault text None

-- no unit of the text is too long, or the first that is
abbrev pub Measures : Text → Result (Unit {0}) Fault → Type 0
Measures text (Ok nothing) = IsCostFault text None
Measures text (Err (Refused number place)) = IsCostFault text (Some (record { number = number; line = place }))
Measures text (Err Memory) = Unit {0}

abbrev pub LoadsUnits : Text → Result (Vec LoweredUnit Global) Fault → Type 0
LoadsUnits text (Ok units) = AreLoaded text units.items
LoadsUnits text (Err (Refused number place)) = IsCostFault text (Some (record { number = number; line = place }))
LoadsUnits text (Err Memory) = Unit {0}
