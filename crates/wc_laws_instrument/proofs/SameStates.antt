-- Two histories with the same zero point, tare and last samples have the same readings, now and after whatever comes.
use Rattle.wc_model.proofs.Common.{◌≡◌, ℕ, zero, ◌+◌, ◌-◌, ◌*◌, ◌<◌, not, ◌&&◌, [], ◌∷◌, ◌++◌, length, refl, ap, sym, ◌∙◌, last_or}
use Rattle.std.specs.Prelude.{ℤ, pos, negsuc, ◌-ℤ◌, ◌*ℤ◌, int_le, int_lt, unsigned_abs, nat_le, ◌||◌, Option, Some, None, is_some, unwrap_or, if◌then◌else◌, codes}
use Rattle.wc_laws_instrument.proofs.Indication.{zero_new, zero_same, tare_ended, tare_same_at_zero, tare_new, tare_same}
use Rattle.wc_laws_instrument.proofs.LastItems.{full_window, last_of_window, one_more}
use Rattle.wc_laws_instrument.specs.Preludes.{HaveSameReadings}
use Rattle.wc_model.specs.Instrument.Answers.{RequestOutcome, Mode, Plain, Shown, Tare, TareRefused, ZeroRefused, answer, mode_byte, scale_status, status_byte, weight_asked, weight_text}
use Rattle.wc_model.specs.Definitions.{CommandRefusal, active_tare, from_zero, gross, gross_intervals, has_sample, in_units, intervals_of, is_centre_of_zero, is_over, is_stable, is_tare_active, is_under, is_valid, net, net_intervals, present_counts, refused_unless, shown, spread_of, tare_counts, tare_refusal, tare_value, window_of, zero_point, zero_refusal, PlateData, image_with, number_of_bits, ClearTare, Event, History, Sample, SetTare, SetZero, last_items, last_sample, samples}

-- what all readings depend on
pub record HaveSameState (p : PlateData) (history other : History) : Type 0 where
  pub zero : zero_point p other ≡ zero_point p history
  pub tare : active_tare p other ≡ active_tare p history
  pub window : window_of p other ≡ window_of p history

module _ (p : PlateData) (history other : History) (some : 0 < p.window) (same : HaveSameState p history other) where
  pub same_last : last_sample other ≡ last_sample history
  same_last = sym (last_of_window p.window (samples other) some) ∙ ap (last_or None) same.window ∙ last_of_window p.window (samples history) some

  same_present : present_counts p other ≡ present_counts p history
  same_present = ap (λ o. unwrap_or o p.zero_counts) same_last

  same_stable : is_stable p other ≡ is_stable p history
  same_stable =
      ap (λ b. b && nat_le (2 * spread_of (window_of p other) * p.n) p.span_counts) (full_window p.window (samples other))
      ∙ ap (λ w. nat_le p.window (length w) && nat_le (2 * spread_of w * p.n) p.span_counts) same.window
      ∙ ap (λ b. b && nat_le (2 * spread_of (window_of p history) * p.n) p.span_counts) (sym (full_window p.window (samples history)))

  same_from_zero : from_zero p other ≡ from_zero p history
  same_from_zero = λ i. same_present i -ℤ same.zero i

  same_gross : gross_intervals p other ≡ gross_intervals p history
  same_gross = ap (intervals_of p) same_from_zero

  same_tare_counts : tare_counts p other ≡ tare_counts p history
  same_tare_counts = ap (λ t. unwrap_or t (pos 0)) same.tare

  same_net : net_intervals p other ≡ net_intervals p history
  same_net = λ i. intervals_of p (same_from_zero i -ℤ same_tare_counts i)

  same_sample : has_sample other ≡ has_sample history
  same_sample = ap is_some same_last

  same_over : is_over p other ≡ is_over p history
  same_over = λ i. same_sample i && int_lt (pos (p.n + 9)) (same_gross i)

  same_under : is_under p other ≡ is_under p history
  same_under = λ i. same_sample i && int_lt (same_gross i) (negsuc 19)

  same_valid : is_valid p other ≡ is_valid p history
  same_valid = λ i. same_sample i && not (same_over i || same_under i)

  same_centre : is_centre_of_zero p other ≡ is_centre_of_zero p history
  same_centre = λ i. same_sample i && nat_le (4 * unsigned_abs (same_from_zero i *ℤ pos p.n)) p.span_counts

  same_active : is_tare_active p other ≡ is_tare_active p history
  same_active = ap is_some same.tare

  pub same_zero_refusal : zero_refusal p other ≡ zero_refusal p history
  same_zero_refusal = λ i. refused_unless (same_stable i) (nat_le (50 * unsigned_abs (same_present i -ℤ p.zero_counts)) p.span_counts)

  pub same_tare_refusal : tare_refusal p other ≡ tare_refusal p history
  same_tare_refusal = λ i. refused_unless (same_stable i) (int_le (pos 1) (same_gross i) && int_le (same_gross i) (pos p.n))

  same_gross_weight : gross p other ≡ gross p history
  same_gross_weight = λ i. if same_valid i then Some (in_units p (same_gross i)) else None

  same_net_weight : net p other ≡ net p history
  same_net_weight = λ i. if same_valid i then Some (in_units p (same_net i)) else None

  same_shown : shown p other ≡ shown p history
  same_shown = λ i. if same_active i then same_net_weight i else same_gross_weight i

  same_tare_value : tare_value p other ≡ tare_value p history
  same_tare_value = ap (λ t. in_units p (intervals_of p t)) same_tare_counts

  same_scale_status : scale_status p other ≡ scale_status p history
  same_scale_status = λ i.
      if not (same_sample i) then codes "I"
      else if same_over i then codes "O"
      else if same_under i then codes "U"
      else if same_centre i then codes "Z"
      else codes " "

  same_status_byte : (asked : RequestOutcome) → status_byte p other asked ≡ status_byte p history asked
  same_status_byte Plain = same_scale_status
  same_status_byte ZeroRefused = refl
  same_status_byte TareRefused = refl

  same_mode_byte : (mode : Mode) → mode_byte p other mode ≡ mode_byte p history mode
  same_mode_byte Shown = ap (λ b. if b then codes "N" else codes "G") same_active
  same_mode_byte Tare = refl

  same_weight_asked : (mode : Mode) → weight_asked p other mode ≡ weight_asked p history mode
  same_weight_asked Shown = same_shown
  same_weight_asked Tare = λ i. if same_valid i then Some (same_tare_value i) else None

  pub same_answer : (mode : Mode) (asked : RequestOutcome) → answer p other mode asked ≡ answer p history mode asked
  same_answer mode asked = λ i.
      10 ∷ same_status_byte asked i ++ codes "1" ++ same_mode_byte mode i ++ (if same_stable i then codes " " else codes "M") ++ codes " "
      ++ weight_text p.decimals (same_weight_asked mode i) ++ p.unit ++ (13 ∷ [])

  pub same_readings : HaveSameReadings p history other
  same_readings = record {
    zero_point = same.zero;
    active_tare = same.tare;
    window = same.window;
    has_sample = same_sample;
    is_stable = same_stable;
    is_over = same_over;
    is_under = same_under;
    is_valid = same_valid;
    is_centre_of_zero = same_centre;
    is_tare_active = same_active;
    zero_refusal = same_zero_refusal;
    tare_refusal = same_tare_refusal;
    gross = same_gross_weight;
    net = same_net_weight;
    shown = same_shown;
    tare_value = same_tare_value;
    answer = same_answer;
  }

  -- after a zero command
  zero_by : (refusal : Option CommandRefusal) → zero_refusal p history ≡ refusal → zero_refusal p other ≡ refusal →
      zero_point p (SetZero ∷ other) ≡ zero_point p (SetZero ∷ history)
  zero_by None e u = zero_new p other u ∙ same_present ∙ sym (zero_new p history e)
  zero_by (Some why) e u = zero_same p other (ap is_some u) ∙ same.zero ∙ sym (zero_same p history (ap is_some e))

  tare_by_zero : (refusal : Option CommandRefusal) → zero_refusal p history ≡ refusal → zero_refusal p other ≡ refusal →
      active_tare p (SetZero ∷ other) ≡ active_tare p (SetZero ∷ history)
  tare_by_zero None e u = tare_ended p other u ∙ sym (tare_ended p history e)
  tare_by_zero (Some why) e u = tare_same_at_zero p other (ap is_some u) ∙ same.tare ∙ sym (tare_same_at_zero p history (ap is_some e))

  -- after a tare command
  tare_by : (refusal : Option CommandRefusal) → tare_refusal p history ≡ refusal → tare_refusal p other ≡ refusal →
      active_tare p (SetTare ∷ other) ≡ active_tare p (SetTare ∷ history)
  tare_by None e u = tare_new p other u ∙ ap Some same_from_zero ∙ sym (tare_new p history e)
  tare_by (Some why) e u = tare_same p other (ap is_some u) ∙ same.tare ∙ sym (tare_same p history (ap is_some e))

  -- the states are the same after the same event
  pub same_after : (event : Event) → HaveSameState p (event ∷ history) (event ∷ other)
  same_after (Sample counts) = record {
    zero = same.zero;
    tare = same.tare;
    window = sym (one_more p.window (samples other) counts) ∙ ap (λ w. last_items p.window (w ++ counts ∷ [])) same.window
        ∙ one_more p.window (samples history) counts;
  }
  same_after SetZero = record {
    zero = zero_by (zero_refusal p history) refl same_zero_refusal;
    tare = tare_by_zero (zero_refusal p history) refl same_zero_refusal;
    window = same.window;
  }
  same_after SetTare = record { zero = same.zero; tare = tare_by (tare_refusal p history) refl same_tare_refusal; window = same.window }
  same_after ClearTare = record { zero = same.zero; tare = refl; window = same.window }

  -- what a scan sees, with the same inputs
  pub same_image : (inputs others : ℕ) → others ≡ inputs → image_with p others other ≡ image_with p inputs history
  same_image inputs others e = λ i. record {
    inputs = e i;
    status = number_of_bits (same_stable i ∷ same_over i ∷ same_under i ∷ same_centre i ∷ same_active i ∷ same_valid i ∷ []);
    weights = if same_valid i
        then in_units p (same_gross i) ∷ in_units p (same_net i) ∷ same_tare_value i ∷ []
        else pos 0 ∷ pos 0 ∷ pos 0 ∷ [];
  }
