-- The steps of TON and TOF agree with their histories.
use Rattle.wc_model.proofs.Common.{◌≡◌, ℕ, Bool, true, false, not, ◌||◌, cond, List, [], ◌∷◌, refl, sym, ap, subst, ◌∙◌, take_while, if◌then◌else◌, take_while-cons}
use Rattle.wc_laws_language.specs.Laws.{ton_call, tof_call}
use Rattle.wc_model.specs.Definitions.{TonFields, TofFields, ton_step, ton_running, ton_idle, tof_step, tof_released, tof_held, tof_falling, TimerCall, FitsTon, FitsTonRun, FitsTonIdle, run_start, oldest_moment, FitsTof, FitsTofNever, FitsTofHeld, FitsTofFalling, FitsTofReleased, fall_start, was_held}

-- the calls of the run that ends the history
abbrev pub running : List TimerCall → List TimerCall
running calls = take_while (λ d. d.input) calls

-- a run goes on from its start, or starts now
pub run_goes_on : (now : ℕ) (f : TonFields) (b : Bool) (c : TimerCall) (earlier : List TimerCall) → (elim b as (λ x. Type 0) [ true ↦ FitsTonRun c (run_start c earlier) f | false ↦ FitsTonIdle f ]) → (if f.run then f.start else now) ≡ oldest_moment now (cond b (c ∷ running earlier) [])
run_goes_on now f true c earlier h = rw h.run h.start_is
run_goes_on now f false c earlier h = rw h.run refl

-- TON measures from the first call of the run
pub ton_start : (now : ℕ) (calls : List TimerCall) (f : TonFields) → FitsTon calls f → (if f.run then f.start else now) ≡ oldest_moment now (running calls)
ton_start now [] f h = rw h.run refl
ton_start now (c ∷ earlier) f h = run_goes_on now f c.input c earlier h ∙ ap (oldest_moment now) (sym (take_while-cons (λ (d : TimerCall). d.input) c earlier))

-- what a running timer shows, by its start
pub ton_runs : (now : ℕ) (f : TonFields) (start reported : ℕ) → start ≡ reported → FitsTonRun (ton_call now f) reported (ton_running f now start)
ton_runs now f start reported e = record { run = refl; start_is = e; q = ap (λ s. (ton_running f now s).q) e; et = ap (λ s. (ton_running f now s).et) e }

pub ton_fits : (now : ℕ) (calls : List TimerCall) (f : TonFields) → FitsTon calls f → FitsTon (ton_call now f ∷ calls) (ton_step now f)
ton_fits now calls f h =
    elim f.input as (λ b. elim b as (λ x. Type 0) [ true ↦ FitsTonRun (ton_call now f) (run_start (ton_call now f) calls) (if b then ton_running f now (if f.run then f.start else now) else ton_idle f) | false ↦ FitsTonIdle (if b then ton_running f now (if f.run then f.start else now) else ton_idle f) ]) [
      | true ↦ ton_runs now f (if f.run then f.start else now) (oldest_moment now (running calls)) (ton_start now calls f h)
      | false ↦ record { run = refl; q = refl; et = refl }
    ]

-- the calls since the last with IN TRUE
abbrev pub released : List TimerCall → List TimerCall
released calls = take_while (λ d. not d.input) calls

-- what a falling TOF shows, by its start
pub tof_falls : (now : ℕ) (f : TofFields) (start reported : ℕ) → start ≡ reported → FitsTofFalling (tof_call now f) reported (tof_falling f now start)
tof_falls now f start reported e = record { phase = refl; start_is = e; q = ap (λ s. (tof_falling f now s).q) e; et = ap (λ s. (tof_falling f now s).et) e }

-- a TOF that never was TRUE stays so
pub never_again : (now : ℕ) (f : TofFields) → FitsTofNever f → FitsTofNever (tof_released f.phase f now)
never_again now f h = rw h.phase (record { phase = refl; q = refl; et = refl })

-- a TOF that falls already goes on from its start
pub goes_on_falling : (now : ℕ) (f : TofFields) (c : TimerCall) (earlier : List TimerCall) (b : Bool) → (elim b as (λ x. Type 0) [ true ↦ FitsTofFalling c (fall_start c earlier) f | false ↦ FitsTofNever f ]) → elim b as (λ x. Type 0) [ true ↦ FitsTofFalling (tof_call now f) (oldest_moment c.moment (released earlier)) (tof_released f.phase f now) | false ↦ FitsTofNever (tof_released f.phase f now) ]
goes_on_falling now f c earlier true h = rw h.phase (tof_falls now f f.start (oldest_moment c.moment (released earlier)) h.start_is)
goes_on_falling now f c earlier false h = never_again now f h

-- with IN FALSE, by whether IN was TRUE at the call before
pub tof_lets_go : (now : ℕ) (f : TofFields) (c : TimerCall) (earlier : List TimerCall) (b : Bool) → (elim b as (λ x. Type 0) [ true ↦ FitsTofHeld f | false ↦ FitsTofReleased c earlier f ]) → elim (b || was_held earlier) as (λ x. Type 0) [ true ↦ FitsTofFalling (tof_call now f) (oldest_moment now (cond (not b) (c ∷ released earlier) [])) (tof_released f.phase f now) | false ↦ FitsTofNever (tof_released f.phase f now) ]
tof_lets_go now f c earlier true h = rw h.phase (tof_falls now f now now refl)
tof_lets_go now f c earlier false h = goes_on_falling now f c earlier (was_held earlier) h

pub tof_releases : (now : ℕ) (calls : List TimerCall) (f : TofFields) → FitsTof calls f → FitsTofReleased (tof_call now f) calls (tof_released f.phase f now)
tof_releases now [] f h = never_again now f h
tof_releases now (c ∷ earlier) f h =
    subst (λ (held : List TimerCall). elim (c.input || was_held earlier) as (λ x. Type 0) [ true ↦ FitsTofFalling (tof_call now f) (oldest_moment now held) (tof_released f.phase f now) | false ↦ FitsTofNever (tof_released f.phase f now) ])
    (sym (take_while-cons (λ (d : TimerCall). not d.input) c earlier))
    (tof_lets_go now f c earlier c.input h)

pub tof_fits : (now : ℕ) (calls : List TimerCall) (f : TofFields) → FitsTof calls f → FitsTof (tof_call now f ∷ calls) (tof_step now f)
tof_fits now calls f h =
    elim f.input as (λ b. elim b as (λ x. Type 0) [ true ↦ FitsTofHeld (if b then tof_held f else tof_released f.phase f now) | false ↦ FitsTofReleased (tof_call now f) calls (if b then tof_held f else tof_released f.phase f now) ]) [
      | true ↦ record { phase = refl; q = refl; et = refl }
      | false ↦ tof_releases now calls f h
    ]
