-- What one more event does to the zero point and the tare.
use Rattle.wc_model.proofs.Common.{◌≡◌, ◌+◌, ◌*◌, ◌/◌, ◌<◌, Bool, true, false, not, ◌∷◌, refl, ap, ◌∙◌, arith, length, div-eq_of_lt, and_left, lt-leb, ints, option_map_or}
use Rattle.std.specs.Prelude.{ℤ, pos, ◌-ℤ◌, Some, None, IsSome, is_some, unwrap_or, nat_le}
use Rattle.wc_model.specs.Instrument.WeighingHistories.{Event, SetZero, SetTare, History, Moment, last_that, samples}
use Rattle.wc_model.specs.Definitions.{zero_refusal, tare_refusal, zero_point, active_tare, from_zero, present_counts, intervals_of, is_accepted_zero, acts_on_tare, tare_left_by, is_stable, spread_of, window_of, PlateData, EffectsOf}

-- the last event that passes, if the newest does
newest_passes : (test : Moment → Bool) (event : Event) (before : History) → test (record { event = event; before = before }) ≡ true →
    last_that test (event ∷ before) ≡ Some (record { event = event; before = before })
newest_passes test event before h = rw h

-- and if it doesn't
newest_fails : (test : Moment → Bool) (event : Event) (before : History) → test (record { event = event; before = before }) ≡ false →
    last_that test (event ∷ before) ≡ last_that test before
newest_fails test event before h = rw h

module _ (p : PlateData) (history : History) where
  -- an accepted zero command takes the present counts
  pub zero_new : zero_refusal p history ≡ None → zero_point p (SetZero ∷ history) ≡ present_counts p history
  zero_new h = ap (λ m. option_map_or (λ moment. present_counts p moment.before) m p.zero_counts)
      (newest_passes (is_accepted_zero p) SetZero history (ap (λ o. not (is_some o)) h))

  -- a refused one leaves the zero point
  pub zero_same : IsSome (zero_refusal p history) → zero_point p (SetZero ∷ history) ≡ zero_point p history
  zero_same h = ap (λ m. option_map_or (λ moment. present_counts p moment.before) m p.zero_counts)
      (newest_fails (is_accepted_zero p) SetZero history (ap not h))

  -- an accepted zero command ends the tare
  pub tare_ended : zero_refusal p history ≡ None → active_tare p (SetZero ∷ history) ≡ None
  tare_ended h = ap (λ m. option_map_or (tare_left_by p) m None)
      (newest_passes (acts_on_tare p) SetZero history (ap (λ o. not (is_some o)) h))

  -- a refused one leaves it
  pub tare_same_at_zero : IsSome (zero_refusal p history) → active_tare p (SetZero ∷ history) ≡ active_tare p history
  tare_same_at_zero h = ap (λ m. option_map_or (tare_left_by p) m None)
      (newest_fails (acts_on_tare p) SetZero history (ap not h))

  -- an accepted tare command takes the present load
  pub tare_new : tare_refusal p history ≡ None → active_tare p (SetTare ∷ history) ≡ Some (from_zero p history)
  tare_new h = ap (λ m. option_map_or (tare_left_by p) m None)
      (newest_passes (acts_on_tare p) SetTare history (ap (λ o. not (is_some o)) h))

  -- a refused one leaves the tare
  pub tare_same : IsSome (tare_refusal p history) → active_tare p (SetTare ∷ history) ≡ active_tare p history
  tare_same h = ap (λ m. option_map_or (tare_left_by p) m None)
      (newest_fails (acts_on_tare p) SetTare history (ap not h))

-- 0 counts are 0 intervals
pub no_intervals : (p : PlateData) → 0 < p.span_counts → intervals_of p (pos 0) ≡ pos 0
no_intervals p h =
    let none : 2 * (0 * p.n) + p.span_counts ≡ p.span_counts = omega arith in
    ap (λ n. pos (n / (2 * p.span_counts))) none ∙ ap pos (div-eq_of_lt (omega arith))

-- a number less itself
less_itself : (z : ℤ) → z -ℤ z ≡ pos 0
less_itself z = omega (arith, ints)

-- what each event does
pub effects_of : (p : PlateData) (history : History) → 0 < p.span_counts → EffectsOf p history
effects_of p history h = record {
  sample = λ counts. record { same_zero = refl; same_tare = refl };
  zero_refused = λ r. record { same_zero = zero_same p history r; same_tare = tare_same_at_zero p history r };
  zero_accepted = λ a. record {
    new_zero = zero_new p history a;
    no_tare = tare_ended p history a;
    gross_is_zero = ap (λ z. intervals_of p (present_counts p history -ℤ z)) (zero_new p history a)
        ∙ ap (intervals_of p) (less_itself (present_counts p history)) ∙ no_intervals p h;
  };
  tare_refused = λ r. record { same_zero = refl; same_tare = tare_same p history r };
  tare_accepted = λ a. record {
    same_zero = refl;
    new_tare = tare_new p history a;
    net_is_zero = ap (λ t. intervals_of p (from_zero p history -ℤ unwrap_or t (pos 0))) (tare_new p history a)
        ∙ ap (intervals_of p) (less_itself (from_zero p history)) ∙ no_intervals p h;
  };
  clear = record { same_zero = refl; no_tare = refl };
}

-- with fewer samples than the window holds the scale is not stable
pub too_few_samples : (p : PlateData) (history : History) → length (samples history) < p.window → is_stable p history ≡ false
too_few_samples p history h =
    and_left (nat_le p.window (length (samples history))) (nat_le (2 * spread_of (window_of p history) * p.n) p.span_counts)
    (lt-leb p.window (length (samples history)) h)
