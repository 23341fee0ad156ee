-- What the outputs of the standard blocks are after a history of calls, defined without any field (IEC 61131-3:2003,
-- 2.5.2.3: the timing diagrams of table 38 and the bodies of tables 34 to 36). A history has the newest call first.
use Rattle.std.specs.Prelude.{◌≡◌, ℕ, ◌-◌, min, Bool, true, false, not, ◌&&◌, ◌||◌, ℤ, pos, int_le, nat_le, nat_lt, List, [], ◌∷◌, Some, None, find, count_by, take_while, if◌then◌else◌}
use Rattle.std.specs.List.{list_any}
use Rattle.wc_model.specs.Language.Blocks.{RTrigFields, SrFields, RsFields, CtuFields, TonFields, TofFields, TpFields, preset}

-- a call of SR, of RS, of CTU, and of a timer with its moment; a call of R_TRIG is its CLK
pub record SrCall : Type 0 where
  pub s1 : Bool
  pub r : Bool

pub record RsCall : Type 0 where
  pub s : Bool
  pub r1 : Bool

pub record CtuCall : Type 0 where
  pub cu : Bool
  pub r : Bool
  pub pv : ℤ

pub record TimerCall : Type 0 where
  pub moment : ℕ
  pub input : Bool
  pub pt : ℤ

-- the first of a list, or what is given
abbrev pub first_or : {X : Type 0} → X → List X → X
first_or given [] = given
first_or given (x ∷ xs) = x

-- the last of a list, or what is given
abbrev pub last_or : {X : Type 0} → X → List X → X
last_or given [] = given
last_or given (x ∷ xs) = last_or x xs

-- each call with all that came before it
abbrev pub with_past : {X : Type 0} → List X → List (List X)
with_past [] = []
with_past (x ∷ xs) = (x ∷ xs) ∷ with_past xs

-- the last of these is TRUE, and there is none before it or that is FALSE
abbrev pub is_rise : List Bool → Bool
is_rise [] = false
is_rise (now ∷ []) = now
is_rise (now ∷ before ∷ earlier) = now && not before

-- R_TRIG: Q is TRUE if the last call has an edge; `m` is its CLK
pub record FitsRTrig (clks : List Bool) (f : RTrigFields) : Type 0 where
  pub q : f.q ≡ is_rise clks
  pub m : f.m ≡ first_or false clks

-- the S1 of the last call with S1 or R TRUE
abbrev pub latched : List SrCall → Bool
latched calls = elim (find (λ c. c.s1 || c.r) calls) [ Some c ↦ c.s1 | None ↦ false ]

-- SR: Q1 is the S1 of the last call with S1 or R TRUE
pub record FitsSr (calls : List SrCall) (f : SrFields) : Type 0 where
  pub q1 : f.q1 ≡ latched calls

-- whether the last call with S or R1 TRUE has R1 FALSE
abbrev pub latched_by_set : List RsCall → Bool
latched_by_set calls = elim (find (λ c. c.s || c.r1) calls) [ Some c ↦ not c.r1 | None ↦ false ]

-- RS: Q1 is not the R1 of the last call with S or R1 TRUE
pub record FitsRs (calls : List RsCall) (f : RsFields) : Type 0 where
  pub q1 : f.q1 ≡ latched_by_set calls

-- the CU of each call
abbrev pub cus : List CtuCall → List Bool
cus [] = []
cus (c ∷ calls) = c.cu ∷ cus calls

-- whether the last call resets
abbrev pub is_reset : List CtuCall → Bool
is_reset [] = false
is_reset (c ∷ calls) = c.r

-- the calls after the last with R TRUE, each with its past
abbrev pub after_reset : List CtuCall → List (List CtuCall)
after_reset calls = take_while (λ past. not (is_reset past)) (with_past calls)

-- the number of edges of CU after the last call with R TRUE, up to the greatest DINT
abbrev pub edges : List CtuCall → ℕ
edges calls = min (count_by (λ past. is_rise (cus past)) (after_reset calls)) 2147483647

-- whether a count has come to the PV of the last call
abbrev pub has_counted : List CtuCall → Bool
has_counted [] = false
has_counted (c ∷ calls) = int_le c.pv (pos (edges (c ∷ calls)))

-- CTU: CV is that number, and Q says that it has come to PV; `m` is the last CU
pub record FitsCtu (calls : List CtuCall) (f : CtuFields) : Type 0 where
  pub cv : f.cv ≡ pos (edges calls)
  pub q : f.q ≡ has_counted calls
  pub m : f.m ≡ first_or false (cus calls)

-- the moment of the oldest of these calls, or the given one
abbrev pub oldest_moment : ℕ → List TimerCall → ℕ
oldest_moment given [] = given
oldest_moment given (c ∷ calls) = oldest_moment c.moment calls

-- TON: with IN FALSE nothing; else the time since the first call of the unbroken run of TRUE that ends the history
pub record FitsTonRun (c : TimerCall) (start : ℕ) (f : TonFields) : Type 0 where
  pub run : f.run ≡ true
  pub start_is : f.start ≡ start
  pub q : f.q ≡ nat_le (preset c.pt) (c.moment - start)
  pub et : f.et ≡ pos (min (c.moment - start) (preset c.pt))

pub record FitsTonIdle (f : TonFields) : Type 0 where
  pub run : f.run ≡ false
  pub q : f.q ≡ false
  pub et : f.et ≡ pos 0

-- the moment of the first call of the unbroken run of TRUE that ends the history
abbrev pub run_start : TimerCall → List TimerCall → ℕ
run_start c earlier = oldest_moment c.moment (take_while (λ d. d.input) earlier)

abbrev pub FitsTon : List TimerCall → TonFields → Type 0
FitsTon [] f = FitsTonIdle f
FitsTon (c ∷ earlier) f = elim c.input [ true ↦ FitsTonRun c (run_start c earlier) f | false ↦ FitsTonIdle f ]

-- TOF, if no call had IN TRUE; if the last call has; and if it had before: the time since the first call after
-- the last TRUE
pub record FitsTofNever (f : TofFields) : Type 0 where
  pub phase : f.phase ≡ 0
  pub q : f.q ≡ false
  pub et : f.et ≡ pos 0

pub record FitsTofHeld (f : TofFields) : Type 0 where
  pub phase : f.phase ≡ 1
  pub q : f.q ≡ true
  pub et : f.et ≡ pos 0

pub record FitsTofFalling (c : TimerCall) (start : ℕ) (f : TofFields) : Type 0 where
  pub phase : f.phase ≡ 2
  pub start_is : f.start ≡ start
  pub q : f.q ≡ nat_lt (c.moment - start) (preset c.pt)
  pub et : f.et ≡ pos (min (c.moment - start) (preset c.pt))

-- some call has IN TRUE
abbrev pub was_held : List TimerCall → Bool
was_held [] = false
was_held (c ∷ calls) = c.input || was_held calls

-- the moment of the first call after the last TRUE
abbrev pub fall_start : TimerCall → List TimerCall → ℕ
fall_start c earlier = oldest_moment c.moment (take_while (λ d. not d.input) earlier)

abbrev pub FitsTofReleased : TimerCall → List TimerCall → TofFields → Type 0
FitsTofReleased c earlier f = elim (was_held earlier) [ true ↦ FitsTofFalling c (fall_start c earlier) f | false ↦ FitsTofNever f ]

abbrev pub FitsTof : List TimerCall → TofFields → Type 0
FitsTof [] f = FitsTofNever f
FitsTof (c ∷ earlier) f = elim c.input [ true ↦ FitsTofHeld f | false ↦ FitsTofReleased c earlier f ]

-- TP cuts the history into idle calls, which have IN FALSE, and spans. A span begins at a call with IN TRUE. Its end is its
-- first call whose time since the begin is at least the PT of that call, and its close the first call from the end on with
-- IN FALSE. What follows gives a span that is not closed by its calls, the newest first.

-- the moment at which a span began
abbrev pub span_start : List TimerCall → ℕ
span_start span = oldest_moment 0 span

-- a span has come to its end
abbrev pub has_ended : List TimerCall → Bool
has_ended span = list_any (λ c. nat_le (preset c.pt) (c.moment - span_start span)) span

-- a span goes on with a call, unless it is closed by it
abbrev pub span_with : TimerCall → List TimerCall → List TimerCall
span_with c span = if has_ended (c ∷ span) && not c.input then [] else c ∷ span

-- what is open after a call: if nothing was open, a call with IN TRUE begins a span
abbrev pub open_with : TimerCall → List TimerCall → List TimerCall
open_with c [] = if c.input then c ∷ [] else []
open_with c (d ∷ span) = span_with c (d ∷ span)

-- the span that is not closed at the end of a history, if there is one
abbrev pub open_span : List TimerCall → List TimerCall
open_span [] = []
open_span (c ∷ earlier) = open_with c (open_span earlier)

-- TP, in idle calls and where a span closes; in a span before its end; and from its end on
pub record FitsTpIdle (f : TpFields) : Type 0 where
  pub phase : f.phase ≡ 0
  pub q : f.q ≡ false
  pub et : f.et ≡ pos 0

pub record FitsTpPulse (c : TimerCall) (start : ℕ) (f : TpFields) : Type 0 where
  pub phase : f.phase ≡ 1
  pub start_is : f.start ≡ start
  pub q : f.q ≡ true
  pub et : f.et ≡ pos (c.moment - start)

pub record FitsTpOver (c : TimerCall) (start : ℕ) (f : TpFields) : Type 0 where
  pub phase : f.phase ≡ 2
  pub start_is : f.start ≡ start
  pub q : f.q ≡ false
  pub et : f.et ≡ pos (preset c.pt)

-- by the span that is open, whose newest call is the last of the history
abbrev pub FitsTpSpan : List TimerCall → TpFields → Type 0
FitsTpSpan [] f = FitsTpIdle f
FitsTpSpan (c ∷ span) f = elim (has_ended (c ∷ span)) [ true ↦ FitsTpOver c (span_start (c ∷ span)) f | false ↦ FitsTpPulse c (span_start (c ∷ span)) f ]

abbrev pub FitsTp : List TimerCall → TpFields → Type 0
FitsTp calls f = FitsTpSpan (open_span calls) f
