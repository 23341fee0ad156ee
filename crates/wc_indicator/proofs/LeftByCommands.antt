-- What a command leaves: the history with the command is represented if what the definition says of it was kept.
use Rattle.wc_model.proofs.Common.{◌≡◌, ◌∷◌, refl, ap, subst, option_map_or}
use Rattle.std.specs.Prelude.{ℤ, not, Option, Some, None, is_some, if◌then◌else◌}
use Rattle.wc_model.specs.Definitions.{PlateData, CommandRefusal, acts_on_tare, from_zero, is_accepted_zero, present_counts, tare_left_by, tare_refusal, zero_refusal, Event, History, SetTare, SetZero, last_that}
use Rattle.wc_indicator.specs.Kept.{IndicatorState, RepresentsHistory}

-- the zero point after a zero command, by why it is refused
abbrev zero_after : PlateData → History → Option CommandRefusal → ℤ
zero_after p history refusal =
    option_map_or (λ moment. present_counts p moment.before)
    (if not (is_some refusal) then Some (record { event = SetZero; before = history }) else last_that (is_accepted_zero p) history) p.zero_counts

-- the tare after a zero or tare command, by why it is refused
abbrev tare_after : PlateData → History → Event → Option CommandRefusal → Option ℤ
tare_after p history command refusal =
    option_map_or (tare_left_by p)
    (if not (is_some refusal) then Some (record { event = command; before = history }) else last_that (acts_on_tare p) history) None

-- a refused zero command changes nothing
pub zero_refused : (k : IndicatorState) (p : PlateData) (history : History) (why : CommandRefusal) → Some why ≡ zero_refusal p history →
    RepresentsHistory k p history → RepresentsHistory k p (SetZero ∷ history)
zero_refused k p history why e h = record {
  same_plate = h.same_plate;
  same_latest = h.same_latest;
  same_last = h.same_last;
  same_zero = subst (λ r. k.zero ≡ zero_after p history r) e h.same_zero;
  same_tare = subst (λ r. k.tare ≡ tare_after p history SetZero r) e h.same_tare;
}

-- an accepted one sets zero and ends the tare
pub zero_set : (k : IndicatorState) (p : PlateData) (history : History) (z : ℤ) → None ≡ zero_refusal p history → z ≡ present_counts p history →
    RepresentsHistory k p history →
    RepresentsHistory (record { plate = k.plate; latest = k.latest; last = k.last; zero = z; tare = None }) p (SetZero ∷ history)
zero_set k p history z e is h = record {
  same_plate = h.same_plate;
  same_latest = h.same_latest;
  same_last = h.same_last;
  same_zero = subst (λ r. z ≡ zero_after p history r) e is;
  same_tare = subst (λ r. None ≡ tare_after p history SetZero r) e refl;
}

-- a refused tare command changes nothing
pub tare_refused : (k : IndicatorState) (p : PlateData) (history : History) (why : CommandRefusal) → Some why ≡ tare_refusal p history →
    RepresentsHistory k p history → RepresentsHistory k p (SetTare ∷ history)
tare_refused k p history why e h = record {
  same_plate = h.same_plate;
  same_latest = h.same_latest;
  same_last = h.same_last;
  same_zero = h.same_zero;
  same_tare = subst (λ r. k.tare ≡ tare_after p history SetTare r) e h.same_tare;
}

-- an accepted one takes the load above the zero point
pub tare_taken : (k : IndicatorState) (p : PlateData) (history : History) (t : ℤ) → None ≡ tare_refusal p history → t ≡ from_zero p history →
    RepresentsHistory k p history →
    RepresentsHistory (record { plate = k.plate; latest = k.latest; last = k.last; zero = k.zero; tare = Some t }) p (SetTare ∷ history)
tare_taken k p history t e is h = record {
  same_plate = h.same_plate;
  same_latest = h.same_latest;
  same_last = h.same_last;
  same_zero = h.same_zero;
  same_tare = subst (λ r. Some t ≡ tare_after p history SetTare r) e (ap Some is);
}
