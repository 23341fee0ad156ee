-- The steps of TP agree with their history.
use Rattle.wc_model.proofs.Common.{◌≡◌, ℕ, ◌-◌, Bool, true, false, not, ◌&&◌, ◌||◌, List, [], ◌∷◌, refl, sym, subst, if◌then◌else◌, nat_le}
use Rattle.wc_laws_language.specs.Laws.{tp_call}
use Rattle.wc_model.specs.Definitions.{TpFields, preset, tp_pulsing, tp_idle, tp_held, tp_over, tp_started, tp_from, tp_step, TimerCall, span_start, has_ended, span_with, open_with, open_span, FitsTp, FitsTpSpan, FitsTpIdle, FitsTpPulse, FitsTpOver}

-- phase and start of a TP, by the span that is open
abbrev pub TpHolds : List TimerCall → TpFields → Type 0
TpHolds [] f = f.phase ≡ 0
TpHolds (c ∷ span) f = (f.start ≡ span_start (c ∷ span)) × (f.phase ≡ (if has_ended (c ∷ span) then 2 else 1))

-- they are those of fields that fit
pub tp_holds : (span : List TimerCall) (f : TpFields) → FitsTpSpan span f → TpHolds span f
tp_holds [] f h = h.phase
tp_holds (c ∷ span) f h = by (has_ended (c ∷ span)) h
  where
    by : (e : Bool) → (elim e as (λ x. Type 0) [ true ↦ FitsTpOver c (span_start (c ∷ span)) f | false ↦ FitsTpPulse c (span_start (c ∷ span)) f ]) → (f.start ≡ span_start (c ∷ span)) × (f.phase ≡ (if e then 2 else 1))
    by true g = (g.start_is, g.phase)
    by false g = (g.start_is, g.phase)

-- what the fields are after a call of a span, by whether it has ended and by IN
abbrev pub FitsAfter : Bool → Bool → TimerCall → ℕ → TpFields → Type 0
FitsAfter true true c start f = FitsTpOver c start f
FitsAfter true false c start f = FitsTpIdle f
FitsAfter false input c start f = FitsTpPulse c start f

-- a span that goes on, or is closed
pub span_fits : (c : TimerCall) (span : List TimerCall) (f : TpFields) → FitsAfter (has_ended (c ∷ span)) c.input c (span_start (c ∷ span)) f → FitsTpSpan (span_with c span) f
span_fits c span f h = by (has_ended (c ∷ span)) refl c.input h
  where
    by : (e : Bool) → has_ended (c ∷ span) ≡ e → (b : Bool) → FitsAfter e b c (span_start (c ∷ span)) f → FitsTpSpan (if e && not b then [] else c ∷ span) f
    by true e true g = subst (λ (x : Bool). elim x as (λ y. Type 0) [ true ↦ FitsTpOver c (span_start (c ∷ span)) f | false ↦ FitsTpPulse c (span_start (c ∷ span)) f ]) (sym e) g
    by true e false g = g
    by false e b g = subst (λ (x : Bool). elim x as (λ y. Type 0) [ true ↦ FitsTpOver c (span_start (c ∷ span)) f | false ↦ FitsTpPulse c (span_start (c ∷ span)) f ]) (sym e) g

-- a TP after the end of its span
pub over_fits : (now : ℕ) (f : TpFields) (start : ℕ) → FitsAfter true f.input (tp_call now f) start (tp_over f start)
over_fits now f start =
    elim f.input as (λ b. FitsAfter true b (tp_call now f) start (if b then tp_held f start else tp_idle f)) [
      | true ↦ record { phase = refl; start_is = refl; q = refl; et = refl }
      | false ↦ record { phase = refl; q = refl; et = refl }
    ]

-- and one whose span had not ended before
pub started_fits : (now : ℕ) (f : TpFields) (start : ℕ) → FitsAfter (nat_le (preset f.pt) (now - start)) f.input (tp_call now f) start (tp_started f now start)
started_fits now f start =
    elim (nat_le (preset f.pt) (now - start)) as (λ t. FitsAfter t f.input (tp_call now f) start (if t then tp_over f start else tp_pulsing f now start)) [
      | true ↦ over_fits now f start
      | false ↦ record { phase = refl; start_is = refl; q = refl; et = refl }
    ]

or_false : (t : Bool) → (t || false) ≡ t
or_false true = refl
or_false false = refl

or_true : (t : Bool) → (t || true) ≡ true
or_true true = refl
or_true false = refl

-- a call in a span, by whether the span had ended before
in_span : (now : ℕ) (f : TpFields) (d : TimerCall) (span : List TimerCall) (e : Bool) → has_ended (d ∷ span) ≡ e → f.start ≡ span_start (d ∷ span) → f.phase ≡ (if e then 2 else 1) → FitsTpSpan (span_with (tp_call now f) (d ∷ span)) (tp_from f.phase f now)
in_span now f d span true e start phase =
    span_fits (tp_call now f) (d ∷ span) (tp_from f.phase f now)
    (rw phase (
    subst (λ (x : Bool). FitsAfter (nat_le (preset f.pt) (now - span_start (d ∷ span)) || x) f.input (tp_call now f) (span_start (d ∷ span)) (tp_over f f.start)) (sym e)
    (subst (λ (x : Bool). FitsAfter x f.input (tp_call now f) (span_start (d ∷ span)) (tp_over f f.start)) (sym (or_true (nat_le (preset f.pt) (now - span_start (d ∷ span)))))
    (subst (λ (s : ℕ). FitsAfter true f.input (tp_call now f) s (tp_over f f.start)) start (over_fits now f f.start)))
    ))
in_span now f d span false e start phase =
    span_fits (tp_call now f) (d ∷ span) (tp_from f.phase f now)
    (rw phase (
    subst (λ (x : Bool). FitsAfter (nat_le (preset f.pt) (now - span_start (d ∷ span)) || x) f.input (tp_call now f) (span_start (d ∷ span)) (tp_started f now f.start)) (sym e)
    (subst (λ (x : Bool). FitsAfter x f.input (tp_call now f) (span_start (d ∷ span)) (tp_started f now f.start)) (sym (or_false (nat_le (preset f.pt) (now - span_start (d ∷ span)))))
    (subst (λ (s : ℕ). FitsAfter (nat_le (preset f.pt) (now - s)) f.input (tp_call now f) s (tp_started f now f.start)) start (started_fits now f f.start)))
    ))

-- a call with IN TRUE closes nothing
goes_on : (c : TimerCall) (span : List TimerCall) → c.input ≡ true → span_with c span ≡ c ∷ span
goes_on c span e = by (has_ended (c ∷ span)) c.input e
  where
    by : (ended b : Bool) → b ≡ true → (if ended && not b then [] else c ∷ span) ≡ c ∷ span
    by true true same = refl
    by false true same = refl
    by ended false same = cc

-- a call that begins a span
begins : (now : ℕ) (f : TpFields) → f.input ≡ true → FitsTpSpan (tp_call now f ∷ []) (tp_started f now now)
begins now f e =
    subst (λ (span : List TimerCall). FitsTpSpan span (tp_started f now now)) (goes_on (tp_call now f) [] e)
    (span_fits (tp_call now f) [] (tp_started f now now)
    (subst (λ (x : Bool). FitsAfter x f.input (tp_call now f) now (tp_started f now now)) (sym (or_false (nat_le (preset f.pt) (now - now)))) (started_fits now f now)))

-- a call, by the span that is open before it
pub still_represents : (now : ℕ) (f : TpFields) (span : List TimerCall) → TpHolds span f → FitsTpSpan (open_with (tp_call now f) span) (tp_step now f)
still_represents now f [] h = rw h (by f.input refl)
  where
    by : (b : Bool) → f.input ≡ b → FitsTpSpan (if b then tp_call now f ∷ [] else []) (if b then tp_started f now now else tp_idle f)
    by true e = begins now f e
    by false e = record { phase = refl; q = refl; et = refl }
still_represents now f (d ∷ span) h = in_span now f d span (has_ended (d ∷ span)) refl h.0 h.1

pub tp_fits : (now : ℕ) (calls : List TimerCall) (f : TpFields) → FitsTp calls f → FitsTp (tp_call now f ∷ calls) (tp_step now f)
tp_fits now calls f h = still_represents now f (open_span calls) (tp_holds (open_span calls) f h)
