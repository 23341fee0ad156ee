-- What an indicator keeps in its fields, and the plate and the history that it represents. What is kept is this crate's own.
use Rattle.std.specs.Prelude.{◌≡◌, ◌≤◌, ◌^◌, List, ℤ, Option, IfSome, unsigned_abs}
use Rattle.wc_model.specs.Definitions.{PlateData, IsPlate, History, last_sample, window_of, zero_point, active_tare}
use Rattle.wc_indicator.specs.declared.indicator.Indicator.TheInside.{Inside}

-- its plate, its last samples, the last of all, the zero point, and the tare in counts while one is active
pub record IndicatorState : Type 0 where
  pub plate : PlateData
  pub latest : List ℤ
  pub last : Option ℤ
  pub zero : ℤ
  pub tare : Option ℤ

-- the indicator represents a plate and all that has come to it
pub record RepresentsHistory (indicator : IndicatorState) (p : PlateData) (history : History) : Type 0 where
  pub same_plate : indicator.plate ≡ p
  pub same_latest : indicator.latest ≡ window_of p history
  pub same_last : indicator.last ≡ last_sample history
  pub same_zero : indicator.zero ≡ zero_point p history
  pub same_tare : indicator.tare ≡ active_tare p history

-- the answer is the value at each plate and history that the indicator represents
abbrev pub Reports : {X : Type 0} → (PlateData → History → X) → IndicatorState → X → Type 0
Reports value indicator answer = (p : PlateData) (history : History) → RepresentsHistory indicator p history → answer ≡ value p history

-- no farther from 0 than a sample can be
abbrev pub IsCount : ℤ → Type 0
IsCount counts = unsigned_abs counts ≤ 2 ^ 23

-- no farther from 0 than the difference of two samples can be
abbrev pub IsDifference : ℤ → Type 0
IsDifference counts = unsigned_abs counts ≤ 2 ^ 24

-- the ranges of what is kept
pub record IsKeptInRange (kept : IndicatorState) : Type 0 where
  pub plate : IsPlate kept.plate
  pub last : IfSome kept.last IsCount
  pub zero : IsCount kept.zero
  pub tare : IfSome kept.tare IsDifference

-- what is kept
abbrev pub kept_view : Inside → IndicatorState
kept_view a = record { plate = a.plate; latest = a.latest.items; last = a.last; zero = a.zero; tare = a.tare }

-- the ring holds as many samples as the plate's window, and what is kept is in its ranges
pub record IsIndicatorSound (a : Inside) : Type 0 where
  pub window : a.latest.capacity ≡ a.plate.window
  pub ranges : IsKeptInRange (kept_view a)
