-- Fields that fit a history fit it whatever their inputs are, and after a call with this call more.
use Rattle.std.proofs.Common.{◌≡◌, ℕ, Bool, true, false, not, ◌&&◌, ◌||◌, List, [], ◌∷◌, refl, sym}
use Rattle.wc_laws_language.specs.HistoryLaws.{of_block}
use Rattle.wc_laws_language.proofs.Fields.{stepped}
use Rattle.wc_laws_language.proofs.Counting.{is_rise-cons, ctu_fits}
use Rattle.wc_laws_language.proofs.Delaying.{ton_fits, tof_fits}
use Rattle.wc_laws_language.proofs.Pulsing.{tp_fits}
use Rattle.wc_model.specs.Definitions.{TonFields, TofFields, TpFields, SrCall, RsCall, TimerCall, latched, latched_by_set, FitsTon, FitsTonRun, FitsTonIdle, run_start, FitsTof, FitsTofNever, FitsTofHeld, FitsTofFalling, FitsTofReleased, fall_start, was_held, FitsTpSpan, FitsTpOver, FitsTpPulse, span_start, has_ended, open_span}
use Rattle.wc_model.specs.declared.block.StandardBlock.{StandardBlock}
use Rattle.wc_model.specs.declared.block.StandardBlock.TheVariants.{RTrig, Sr, Rs, Ctu, Ton, Tof, Tp}

-- the timers with other inputs
ton_set : (calls : List TimerCall) (c : TimerCall) (f : TonFields) → FitsTon calls f → FitsTon calls ((of_block Ton).set_up c f)
ton_set [] c f h = record { run = h.run; q = h.q; et = h.et }
ton_set (d ∷ earlier) c f h = by d.input h
  where
    by : (b : Bool) → (elim b as (λ x. Type 0) [ true ↦ FitsTonRun d (run_start d earlier) f | false ↦ FitsTonIdle f ]) →
        elim b as (λ x. Type 0) [ true ↦ FitsTonRun d (run_start d earlier) ((of_block Ton).set_up c f) | false ↦ FitsTonIdle ((of_block Ton).set_up c f) ]
    by true g = record { run = g.run; start_is = g.start_is; q = g.q; et = g.et }
    by false g = record { run = g.run; q = g.q; et = g.et }

tof_set : (calls : List TimerCall) (c : TimerCall) (f : TofFields) → FitsTof calls f → FitsTof calls ((of_block Tof).set_up c f)
tof_set [] c f h = record { phase = h.phase; q = h.q; et = h.et }
tof_set (d ∷ earlier) c f h = by d.input h
  where
    falls : (b : Bool) → (elim b as (λ x. Type 0) [ true ↦ FitsTofFalling d (fall_start d earlier) f | false ↦ FitsTofNever f ]) →
        elim b as (λ x. Type 0) [ true ↦ FitsTofFalling d (fall_start d earlier) ((of_block Tof).set_up c f) | false ↦ FitsTofNever ((of_block Tof).set_up c f) ]
    falls true g = record { phase = g.phase; start_is = g.start_is; q = g.q; et = g.et }
    falls false g = record { phase = g.phase; q = g.q; et = g.et }

    by : (b : Bool) → (elim b as (λ x. Type 0) [ true ↦ FitsTofHeld f | false ↦ FitsTofReleased d earlier f ]) →
        elim b as (λ x. Type 0) [ true ↦ FitsTofHeld ((of_block Tof).set_up c f) | false ↦ FitsTofReleased d earlier ((of_block Tof).set_up c f) ]
    by true g = record { phase = g.phase; q = g.q; et = g.et }
    by false g = falls (was_held earlier) g

tp_set : (span : List TimerCall) (c : TimerCall) (f : TpFields) → FitsTpSpan span f → FitsTpSpan span ((of_block Tp).set_up c f)
tp_set [] c f h = record { phase = h.phase; q = h.q; et = h.et }
tp_set (d ∷ span) c f h = by (has_ended (d ∷ span)) h
  where
    by : (b : Bool) → (elim b as (λ x. Type 0) [ true ↦ FitsTpOver d (span_start (d ∷ span)) f | false ↦ FitsTpPulse d (span_start (d ∷ span)) f ]) →
        elim b as (λ x. Type 0) [ true ↦ FitsTpOver d (span_start (d ∷ span)) ((of_block Tp).set_up c f) | false ↦ FitsTpPulse d (span_start (d ∷ span)) ((of_block Tp).set_up c f) ]
    by true g = record { phase = g.phase; start_is = g.start_is; q = g.q; et = g.et }
    by false g = record { phase = g.phase; start_is = g.start_is; q = g.q; et = g.et }

-- the last call that sets or resets
sr_fits : (s1 r q1 : Bool) (calls : List SrCall) → q1 ≡ latched calls → (s1 || (not r && q1)) ≡ latched (record { s1 = s1; r = r } ∷ calls)
sr_fits true r q1 calls e = refl
sr_fits false true q1 calls e = refl
sr_fits false false q1 calls e = e

rs_fits : (s r1 q1 : Bool) (calls : List RsCall) → q1 ≡ latched_by_set calls → (not r1 && (s || q1)) ≡ latched_by_set (record { s = s; r1 = r1 } ∷ calls)
rs_fits true true q1 calls e = refl
rs_fits true false q1 calls e = refl
rs_fits false true q1 calls e = refl
rs_fits false false q1 calls e = e

-- a call that comes next
pub fits_next : (block : StandardBlock) (now : ℕ) (calls : List (of_block block).Call) (c : (of_block block).Call) (f : (of_block block).Fields) → (of_block block).Fits calls f →
    (of_block block).Fits (c ∷ calls) (stepped block ((of_block block).moment now c) ((of_block block).set_up c f))
fits_next RTrig now calls c f h = record { q = rw h.m (sym (is_rise-cons c calls)); m = refl }
fits_next Sr now calls c f h = record { q1 = sr_fits c.s1 c.r f.q1 calls h.q1 }
fits_next Rs now calls c f h = record { q1 = rs_fits c.s c.r1 f.q1 calls h.q1 }
fits_next Ctu now calls c f h = ctu_fits calls ((of_block Ctu).set_up c f) (record { cv = h.cv; q = h.q; m = h.m })
fits_next Ton now calls c f h = ton_fits c.moment calls ((of_block Ton).set_up c f) (ton_set calls c f h)
fits_next Tof now calls c f h = tof_fits c.moment calls ((of_block Tof).set_up c f) (tof_set calls c f h)
fits_next Tp now calls c f h = tp_fits c.moment calls ((of_block Tp).set_up c f) (tp_set (open_span calls) c f h)
