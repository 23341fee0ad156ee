-- The letters of an answer's fields, and what each says. The letters are those of the definition of the line's answers.
use Rattle.std.specs.Prelude.{◌≡◌, ℕ, Bool, true, false, List, [], ◌∷◌}
use Rattle.wc_model.specs.Instrument.Answers as answers
use Rattle.wc_model.specs.Definitions.{has_sample, is_centre_of_zero, is_over, is_stable, is_tare_active, is_under, is_valid, PlateData, IsPlate, grams, kilograms, tonnes, History}
use Rattle.wc_sma.specs.declared.letters.MassUnit.{MassUnit}
use Rattle.wc_sma.specs.declared.letters.MassUnit.TheVariants.{Gram, Kilogram, Tonne}
use Rattle.wc_sma.specs.declared.letters.Status.{Status}
use Rattle.wc_sma.specs.declared.letters.Status.TheVariants.{Normal, CentreOfZero, Over, Under, NoSample, ZeroRefused, TareRefused}
use Rattle.wc_sma.specs.declared.letters.WeightKind.{WeightKind}
use Rattle.wc_sma.specs.declared.letters.WeightKind.TheVariants.{Gross, Net, Tare}

-- the letter of a status, or a space
abbrev pub status_letter : Status → ℕ
status_letter Normal = 32
status_letter CentreOfZero = 90
status_letter Over = 79
status_letter Under = 85
status_letter NoSample = 73
status_letter ZeroRefused = 69
status_letter TareRefused = 84

-- the letter of a kind of weight
abbrev pub kind_letter : WeightKind → ℕ
kind_letter Gross = 71
kind_letter Net = 78
kind_letter Tare = 84

-- a space in stable equilibrium, `M` in motion
abbrev pub motion_letter : Bool → ℕ
motion_letter true = 32
motion_letter false = 77

-- the three bytes of a unit
abbrev pub unit_letters : MassUnit → List ℕ
unit_letters Gram = grams
unit_letters Kilogram = kilograms
unit_letters Tonne = tonnes

-- what a status says: that the command was refused, or else how the scale is
abbrev pub IsStatus : PlateData → History → answers.RequestOutcome → Status → Type 0
IsStatus p history asked Normal = (asked ≡ answers.Plain) × (is_valid p history ≡ true) × (is_centre_of_zero p history ≡ false)
IsStatus p history asked CentreOfZero = (asked ≡ answers.Plain) × (is_valid p history ≡ true) × (is_centre_of_zero p history ≡ true)
IsStatus p history asked Over = (asked ≡ answers.Plain) × (is_over p history ≡ true)
IsStatus p history asked Under = (asked ≡ answers.Plain) × (is_under p history ≡ true)
IsStatus p history asked NoSample = (asked ≡ answers.Plain) × (has_sample history ≡ false)
IsStatus p history asked ZeroRefused = asked ≡ answers.ZeroRefused
IsStatus p history asked TareRefused = asked ≡ answers.TareRefused

-- what a kind of weight says: the tare was asked for, or else whether a tare is active
abbrev pub IsKind : PlateData → History → answers.Mode → WeightKind → Type 0
IsKind p history mode Gross = (mode ≡ answers.Shown) × (is_tare_active p history ≡ false)
IsKind p history mode Net = (mode ≡ answers.Shown) × (is_tare_active p history ≡ true)
IsKind p history mode Tare = mode ≡ answers.Tare

-- The letters are just those of the line's answers.
--     status, kind, motion, unit     in each answer each field has the letter of what is so
--     each_status, ..                each letter is that of an answer, for some plate and history
pub record LettersAreAnswers : Type 0 where
  pub status : (p : PlateData) (history : History) (asked : answers.RequestOutcome) →
      (s : Status) × (answers.status_byte p history asked ≡ status_letter s ∷ []) × IsStatus p history asked s
  pub kind : (p : PlateData) (history : History) (mode : answers.Mode) →
      (k : WeightKind) × (answers.mode_byte p history mode ≡ kind_letter k ∷ []) × IsKind p history mode k
  pub motion : (p : PlateData) (history : History) → answers.motion_byte p history ≡ motion_letter (is_stable p history) ∷ []
  pub unit : (p : PlateData) → IsPlate p → (u : MassUnit) × (p.unit ≡ unit_letters u)
  pub each_status : (s : Status) →
      (p : PlateData) × (history : History) × (asked : answers.RequestOutcome) × IsPlate p × (answers.status_byte p history asked ≡ status_letter s ∷ [])
  pub each_kind : (k : WeightKind) →
      (p : PlateData) × (history : History) × (mode : answers.Mode) × IsPlate p × (answers.mode_byte p history mode ≡ kind_letter k ∷ [])
  pub each_motion : (stable : Bool) →
      (p : PlateData) × (history : History) × IsPlate p × (answers.motion_byte p history ≡ motion_letter stable ∷ [])
  pub each_unit : (u : MassUnit) → (p : PlateData) × IsPlate p × (p.unit ≡ unit_letters u)
