-- The indication as a function of the plate and of all that has come: OIML R 76-1:2006, class III, single range,
-- non-automatic use. A rule names its section if it has one; if none is named, it is the profile's own.
use Rattle.std.specs.Prelude.{ℕ, ◌+◌, ◌*◌, Bool, true, false, not, ◌&&◌, ◌||◌, nat_le, List, [], ◌∷◌, length, fold, ℤ, pos, negsuc, ◌-ℤ◌, ◌*ℤ◌, int_lt, int_le, unsigned_abs, Option, Some, None, is_some, unwrap_or, if◌then◌else◌}
use Rattle.std.specs.Int.{int_max, int_min}
use Rattle.std.specs.Option.{option_map_or}
use Rattle.wc_model.specs.Instrument.Plates.{PlateData}
use Rattle.wc_model.specs.Instrument.Rounding.{nearest}
use Rattle.wc_model.specs.Instrument.WeighingHistories.{Sample, SetZero, SetTare, ClearTare, History, samples, last_sample, last_items, Moment, last_that}

-- the greatest less the least
abbrev pub spread_of : List ℤ → ℕ
spread_of [] = 0
spread_of (x ∷ xs) = unsigned_abs (fold int_max x xs -ℤ fold int_min x xs)

-- whether a sample has come
abbrev pub has_sample : History → Bool
has_sample history = is_some (last_sample history)

-- the last sample, and the calibrated zero before any
abbrev pub present_counts : PlateData → History → ℤ
present_counts p history = unwrap_or (last_sample history) p.zero_counts

-- the last `window` samples
abbrev pub window_of : PlateData → History → List ℤ
window_of p history = last_items p.window (samples history)

-- Stable equilibrium (OIML R 76-1:2006, 4.4.2), by the profile's own measure: `window` samples have come, and the
-- spread of the last `window` is at most half an interval.
abbrev pub is_stable : PlateData → History → Bool
is_stable p history =
    nat_le p.window (length (samples history)) && nat_le (2 * spread_of (window_of p history) * p.n) p.span_counts

-- why a command is refused
pub data CommandRefusal : Type 0 where
  Motion : CommandRefusal
  Range : CommandRefusal

-- Motion if the scale is not stable, else Range if it lies outside
abbrev pub refused_unless : Bool → Bool → Option CommandRefusal
refused_unless true true = None
refused_unless true false = Some Range
refused_unless false _ = Some Motion

-- whether the load is within 2 % of Max of the calibrated zero, on either side (OIML R 76-1:2006, 4.5.1: 4 %
-- in all)
abbrev pub is_near_zero : PlateData → History → Bool
is_near_zero p history = nat_le (50 * unsigned_abs (present_counts p history -ℤ p.zero_counts)) p.span_counts

-- why a zero command would be refused now: it works in stable equilibrium alone (OIML R 76-1:2006, 4.5.4)
abbrev pub zero_refusal : PlateData → History → Option CommandRefusal
zero_refusal p history = refused_unless (is_stable p history) (is_near_zero p history)

-- whether this is a zero command that was accepted
abbrev pub is_accepted_zero : PlateData → Moment → Bool
is_accepted_zero p moment = elim moment.event [
  | Sample counts ↦ false
  | SetZero ↦ not (is_some (zero_refusal p moment.before))
  | SetTare ↦ false
  | ClearTare ↦ false
]

-- the zero point: the sample at the last accepted zero command, else the calibrated zero
abbrev pub zero_point : PlateData → History → ℤ
zero_point p history =
    option_map_or (λ moment. present_counts p moment.before) (last_that (is_accepted_zero p) history) p.zero_counts

-- the last sample, counted from the zero point
abbrev pub from_zero : PlateData → History → ℤ
from_zero p history = present_counts p history -ℤ zero_point p history

-- counts as a whole number of intervals, the nearest
abbrev pub intervals_of : PlateData → ℤ → ℤ
intervals_of p counts = nearest (counts *ℤ pos p.n) p.span_counts

-- the gross weight in intervals
abbrev pub gross_intervals : PlateData → History → ℤ
gross_intervals p history = intervals_of p (from_zero p history)

-- whether the gross weight lies from 1 interval to Max
abbrev pub can_be_tared : PlateData → History → Bool
can_be_tared p history = int_le (pos 1) (gross_intervals p history) && int_le (gross_intervals p history) (pos p.n)

-- why a tare command would be refused now: a tare in motion is, since it works in stable equilibrium alone, and so is one
-- at or below zero or above Max (OIML R 76-1:2006, 4.6.4 and 4.6.8)
abbrev pub tare_refusal : PlateData → History → Option CommandRefusal
tare_refusal p history = refused_unless (is_stable p history) (can_be_tared p history)

-- Whether this acts on the tare: a tare command that was accepted, which takes a new tare in place of the old
-- (OIML R 76-1:2006, 4.6.10), a zero command that was accepted, which ends it (the profile's own; 4.5.4 asks it of a
-- zero key), or a clear.
abbrev pub acts_on_tare : PlateData → Moment → Bool
acts_on_tare p moment = elim moment.event [
  | Sample counts ↦ false
  | SetZero ↦ not (is_some (zero_refusal p moment.before))
  | SetTare ↦ not (is_some (tare_refusal p moment.before))
  | ClearTare ↦ true
]

-- the tare in counts that an event leaves: a tare command takes the load above the zero point, not rounded (the
-- profile's own)
abbrev pub tare_left_by : PlateData → Moment → Option ℤ
tare_left_by p moment = elim moment.event [
  | Sample counts ↦ None
  | SetZero ↦ None
  | SetTare ↦ Some (from_zero p moment.before)
  | ClearTare ↦ None
]

-- the tare in counts while one is active: what the last event that acted on it left
abbrev pub active_tare : PlateData → History → Option ℤ
active_tare p history = option_map_or (tare_left_by p) (last_that (acts_on_tare p) history) None

-- whether a tare is active
abbrev pub is_tare_active : PlateData → History → Bool
is_tare_active p history = is_some (active_tare p history)

-- the tare in counts, 0 while none is active
abbrev pub tare_counts : PlateData → History → ℤ
tare_counts p history = unwrap_or (active_tare p history) (pos 0)

-- the net weight in intervals, rounded by itself (the profile's own)
abbrev pub net_intervals : PlateData → History → ℤ
net_intervals p history = intervals_of p (from_zero p history -ℤ tare_counts p history)

-- a number of intervals in units of the last decimal
abbrev pub in_units : PlateData → ℤ → ℤ
in_units p intervals = intervals *ℤ pos p.e

-- the tare value in the instrument's intervals (OIML R 76-1:2006, 4.6.2), rounded by itself
abbrev pub tare_value : PlateData → History → ℤ
tare_value p history = in_units p (intervals_of p (tare_counts p history))

-- over, the overload of a scale: above Max by more than 9 e there is no indication (OIML R 76-1:2006, 4.2.3)
abbrev pub is_over : PlateData → History → Bool
is_over p history = has_sample history && int_lt (pos (p.n + 9)) (gross_intervals p history)

-- more than 20 intervals below zero there is none either (the profile's own limit)
abbrev pub is_under : PlateData → History → Bool
is_under p history = has_sample history && int_lt (gross_intervals p history) (negsuc 19)

-- whether there is an indication
abbrev pub is_valid : PlateData → History → Bool
is_valid p history = has_sample history && not (is_over p history || is_under p history)

-- the gross weight is within a quarter of an interval of zero (OIML R 76-1:2006, 4.5.5), with or without a tare
abbrev pub is_centre_of_zero : PlateData → History → Bool
is_centre_of_zero p history =
    has_sample history && nat_le (4 * unsigned_abs (from_zero p history *ℤ pos p.n)) p.span_counts

-- a value, if there is an indication
abbrev pub if_valid : PlateData → History → ℤ → Option ℤ
if_valid p history value = if is_valid p history then Some value else None

-- the gross weight
abbrev pub gross : PlateData → History → Option ℤ
gross p history = if_valid p history (in_units p (gross_intervals p history))

-- the net weight
abbrev pub net : PlateData → History → Option ℤ
net p history = if_valid p history (in_units p (net_intervals p history))

-- what is shown: the net weight while a tare is active, else the gross weight
abbrev pub shown : PlateData → History → Option ℤ
shown p history = if is_tare_active p history then net p history else gross p history
