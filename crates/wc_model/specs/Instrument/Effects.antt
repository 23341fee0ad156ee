-- What one more event does to the zero point and the tare: laws of the definitions, which no definition uses.
use Rattle.std.specs.Prelude.{◌≡◌, ℤ, pos, ◌∷◌, Some, None, IsSome}
use Rattle.wc_model.specs.Instrument.WeighingHistories.{Event, Sample, SetZero, SetTare, ClearTare, History}
use Rattle.wc_model.specs.Instrument.Indication.{zero_refusal, tare_refusal, zero_point, active_tare, from_zero, present_counts, gross_intervals, net_intervals}
use Rattle.wc_model.specs.Instrument.Plates.{PlateData}

-- one more event leaves the zero point and the tare as they were
pub record LeavesAll (p : PlateData) (history : History) (event : Event) : Type 0 where
  pub same_zero : zero_point p (event ∷ history) ≡ zero_point p history
  pub same_tare : active_tare p (event ∷ history) ≡ active_tare p history

-- a zero command that is accepted takes the present load for zero, and ends the tare
pub record TakesZero (p : PlateData) (history : History) : Type 0 where
  pub new_zero : zero_point p (SetZero ∷ history) ≡ present_counts p history
  pub no_tare : active_tare p (SetZero ∷ history) ≡ None
  pub gross_is_zero : gross_intervals p (SetZero ∷ history) ≡ pos 0

-- a tare command that is accepted takes the present load for the tare, and the net weight is exactly 0
pub record TakesTare (p : PlateData) (history : History) : Type 0 where
  pub same_zero : zero_point p (SetTare ∷ history) ≡ zero_point p history
  pub new_tare : active_tare p (SetTare ∷ history) ≡ Some (from_zero p history)
  pub net_is_zero : net_intervals p (SetTare ∷ history) ≡ pos 0

-- a clear ends the tare, also in motion
pub record Clears (p : PlateData) (history : History) : Type 0 where
  pub same_zero : zero_point p (ClearTare ∷ history) ≡ zero_point p history
  pub no_tare : active_tare p (ClearTare ∷ history) ≡ None

-- What each event does: a sample and a refused command leave all as it was.
pub record EffectsOf (p : PlateData) (history : History) : Type 0 where
  pub sample : (counts : ℤ) → LeavesAll p history (Sample counts)
  pub zero_refused : IsSome (zero_refusal p history) → LeavesAll p history SetZero
  pub zero_accepted : zero_refusal p history ≡ None → TakesZero p history
  pub tare_refused : IsSome (tare_refusal p history) → LeavesAll p history SetTare
  pub tare_accepted : tare_refusal p history ≡ None → TakesTare p history
  pub clear : Clears p history
