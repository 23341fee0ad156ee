-- The letters of the line's answers.
use Rattle.std.proofs.Common.{◌≡◌, ℕ, zero, suc, ◌&&◌, ◌||◌, not, Bool, true, false, List, [], ◌∷◌, codes, refl, sym, lit<, lit≤, arith}
use Rattle.std.specs.Prelude.{pos, negsuc, if◌then◌else◌, Contains}
use Rattle.wc_model.specs.Instrument.Answers as answers
use Rattle.wc_model.specs.Definitions.{has_sample, is_centre_of_zero, is_over, is_stable, is_tare_active, is_under, PlateData, IsPlate, grams, kilograms, tonnes, History, Sample, SetTare}
use Rattle.wc_sma.specs.Letters.{IsKind, IsStatus, LettersAreAnswers, kind_letter, motion_letter, status_letter, unit_letters}
use Rattle.wc_sma.specs.declared.letters.MassUnit.{MassUnit}
use Rattle.wc_sma.specs.declared.letters.MassUnit.TheVariants.{Gram, Kilogram, Tonne}
use Rattle.wc_sma.specs.declared.letters.Status.{Status}
use Rattle.wc_sma.specs.declared.letters.Status.TheVariants.{Normal, CentreOfZero, Over, Under, NoSample, ZeroRefused, TareRefused}
use Rattle.wc_sma.specs.declared.letters.WeightKind.{WeightKind}
use Rattle.wc_sma.specs.declared.letters.WeightKind.TheVariants.{Gross, Net, Tare}

-- the status of the scale
scale_status : (p : PlateData) (history : History) →
    (s : Status) × (answers.scale_status p history ≡ status_letter s ∷ []) × IsStatus p history answers.Plain s
scale_status p history = go (has_sample history) refl (is_over p history) refl (is_under p history) refl (is_centre_of_zero p history) refl
  where
    go : (sampled : Bool) → has_sample history ≡ sampled → (over : Bool) → is_over p history ≡ over → (under : Bool) → is_under p history ≡ under
        → (centre : Bool) → is_centre_of_zero p history ≡ centre
        → (s : Status) × ((if not sampled then codes "I" else if over then codes "O" else if under then codes "U" else if centre then codes "Z" else codes " ") ≡ status_letter s ∷ [])
        × IsStatus p history answers.Plain s
    go false h over o under u centre z = (NoSample, refl, (refl, h))
    go true h true o under u centre z = (Over, refl, (refl, o))
    go true h false o true u centre z = (Under, refl, (refl, u))
    go true h false o false u true z = (CentreOfZero, refl, (refl, (λ i. h i && not (o i || u i)), z))
    go true h false o false u false z = (Normal, refl, (refl, (λ i. h i && not (o i || u i)), z))

-- the status of an answer
status_of : (p : PlateData) (history : History) (asked : answers.RequestOutcome) →
    (s : Status) × (answers.status_byte p history asked ≡ status_letter s ∷ []) × IsStatus p history asked s
status_of p history answers.Plain = scale_status p history
status_of p history answers.ZeroRefused = (ZeroRefused, refl, refl)
status_of p history answers.TareRefused = (TareRefused, refl, refl)

-- which weight it is
kind_of : (p : PlateData) (history : History) (mode : answers.Mode) →
    (k : WeightKind) × (answers.mode_byte p history mode ≡ kind_letter k ∷ []) × IsKind p history mode k
kind_of p history answers.Shown = go (is_tare_active p history) refl
  where
    go : (tared : Bool) → is_tare_active p history ≡ tared
        → (k : WeightKind) × ((if tared then codes "N" else codes "G") ≡ kind_letter k ∷ []) × IsKind p history answers.Shown k
    go true t = (Net, refl, (refl, t))
    go false t = (Gross, refl, (refl, t))
kind_of p history answers.Tare = (Tare, refl, refl)

-- the letter of motion
motion_of : (stable : Bool) → (if stable then codes " " else codes "M") ≡ motion_letter stable ∷ []
motion_of true = refl
motion_of false = refl

-- the unit
unit_of : (unit : List ℕ) → Contains (grams ∷ kilograms ∷ tonnes ∷ []) unit → (u : MassUnit) × (unit ≡ unit_letters u)
unit_of unit (zero, l, e) = (Gram, sym e)
unit_of unit (suc zero, l, e) = (Kilogram, sym e)
unit_of unit (suc (suc zero), l, e) = (Tonne, sym e)
unit_of unit (suc (suc (suc k)), l, e) = absurd (omega arith)

-- a plate of 15 t, 15 kg or 15000 g
abbrev plate_in : MassUnit → PlateData
plate_in Gram = record { unit = grams; decimals = 0; max = 15000; e = 5; n = 3000; zero_counts = pos 10000; span_counts = 600000; window = 4 }
plate_in Kilogram = record { unit = kilograms; decimals = 3; max = 15000; e = 5; n = 3000; zero_counts = pos 10000; span_counts = 600000; window = 4 }
plate_in Tonne = record { unit = tonnes; decimals = 3; max = 15000; e = 5; n = 3000; zero_counts = pos 10000; span_counts = 600000; window = 4 }

is_plate : (u : MassUnit) → IsPlate (plate_in u)
is_plate Gram = record {
  known_unit = (0, lit< tt, refl);
  few_decimals = lit≤ tt;
  allowed = (2, lit< tt, refl);
  five_grams = lit≤ tt;
  exact = refl;
  count = (lit≤ tt, lit≤ tt);
  zero_in_range = search;
  span_in_range = (lit≤ tt, lit≤ tt);
  window_in_range = (lit≤ tt, lit≤ tt);
}
is_plate Kilogram = record {
  known_unit = (1, lit< tt, refl);
  few_decimals = lit≤ tt;
  allowed = (2, lit< tt, refl);
  five_grams = lit≤ tt;
  exact = refl;
  count = (lit≤ tt, lit≤ tt);
  zero_in_range = search;
  span_in_range = (lit≤ tt, lit≤ tt);
  window_in_range = (lit≤ tt, lit≤ tt);
}
is_plate Tonne = record {
  known_unit = (2, lit< tt, refl);
  few_decimals = lit≤ tt;
  allowed = (2, lit< tt, refl);
  five_grams = lit≤ tt;
  exact = refl;
  count = (lit≤ tt, lit≤ tt);
  zero_in_range = search;
  span_in_range = (lit≤ tt, lit≤ tt);
  window_in_range = (lit≤ tt, lit≤ tt);
}

-- four samples, after which the scale is stable
abbrev four : History
four = Sample (pos 60000) ∷ Sample (pos 60000) ∷ Sample (pos 60000) ∷ Sample (pos 60000) ∷ []

-- an answer with each status
each_status : (s : Status) →
    (p : PlateData) × (history : History) × (asked : answers.RequestOutcome) × IsPlate p × (answers.status_byte p history asked ≡ status_letter s ∷ [])
each_status Normal = (plate_in Kilogram, four, answers.Plain, is_plate Kilogram, refl)
each_status CentreOfZero = (plate_in Kilogram, Sample (pos 10000) ∷ [], answers.Plain, is_plate Kilogram, refl)
each_status Over = (plate_in Kilogram, Sample (pos 8388607) ∷ [], answers.Plain, is_plate Kilogram, refl)
each_status Under = (plate_in Kilogram, Sample (negsuc 8388607) ∷ [], answers.Plain, is_plate Kilogram, refl)
each_status NoSample = (plate_in Kilogram, [], answers.Plain, is_plate Kilogram, refl)
each_status ZeroRefused = (plate_in Kilogram, [], answers.ZeroRefused, is_plate Kilogram, refl)
each_status TareRefused = (plate_in Kilogram, [], answers.TareRefused, is_plate Kilogram, refl)

-- an answer with each weight
each_kind : (k : WeightKind) →
    (p : PlateData) × (history : History) × (mode : answers.Mode) × IsPlate p × (answers.mode_byte p history mode ≡ kind_letter k ∷ [])
each_kind Gross = (plate_in Kilogram, [], answers.Shown, is_plate Kilogram, refl)
each_kind Net = (plate_in Kilogram, SetTare ∷ four, answers.Shown, is_plate Kilogram, refl)
each_kind Tare = (plate_in Kilogram, [], answers.Tare, is_plate Kilogram, refl)

-- one in motion and one that is not
each_motion : (stable : Bool) → (p : PlateData) × (history : History) × IsPlate p × (answers.motion_byte p history ≡ motion_letter stable ∷ [])
each_motion true = (plate_in Kilogram, four, is_plate Kilogram, refl)
each_motion false = (plate_in Kilogram, [], is_plate Kilogram, refl)

-- one in each unit
each_unit : (u : MassUnit) → (p : PlateData) × IsPlate p × (p.unit ≡ unit_letters u)
each_unit Gram = (plate_in Gram, is_plate Gram, refl)
each_unit Kilogram = (plate_in Kilogram, is_plate Kilogram, refl)
each_unit Tonne = (plate_in Tonne, is_plate Tonne, refl)

pub letters_are_answers : LettersAreAnswers
letters_are_answers = record {
  status = status_of;
  kind = kind_of;
  motion = λ p history. motion_of (is_stable p history);
  unit = λ p plate. unit_of p.unit plate.known_unit;
  each_status = each_status;
  each_kind = each_kind;
  each_motion = each_motion;
  each_unit = each_unit;
}
