-- The standard function blocks: their fields, and the fields after one call (IEC 61131-3:2003, 2.5.2.3, tables 34 to 37;
-- CTU counts in DINT, and PT is read at each call: the profile's own). A moment is in milliseconds.
use Rattle.std.specs.Prelude.{ℕ, zero, suc, ◌-◌, min, Bool, true, false, not, ◌&&◌, ◌||◌, ℤ, pos, negsuc, ◌+ℤ◌, int_lt, int_le, nat_le, nat_lt, if◌then◌else◌}

-- R_TRIG: `m` is CLK at the call before
pub record RTrigFields : Type 0 where
  pub clk : Bool
  pub q : Bool
  pub m : Bool

-- SR
pub record SrFields : Type 0 where
  pub s1 : Bool
  pub r : Bool
  pub q1 : Bool

-- RS
pub record RsFields : Type 0 where
  pub s : Bool
  pub r1 : Bool
  pub q1 : Bool

-- CTU: `m` is CU at the call before
pub record CtuFields : Type 0 where
  pub cu : Bool
  pub r : Bool
  pub pv : ℤ
  pub q : Bool
  pub cv : ℤ
  pub m : Bool

-- TON: `run` says that IN is TRUE since the moment `start`
pub record TonFields : Type 0 where
  pub input : Bool
  pub pt : ℤ
  pub q : Bool
  pub et : ℤ
  pub run : Bool
  pub start : ℕ

-- TOF: in phase 0 IN was never TRUE, in phase 1 it is, in phase 2 it is FALSE since the moment `start`
pub record TofFields : Type 0 where
  pub input : Bool
  pub pt : ℤ
  pub q : Bool
  pub et : ℤ
  pub phase : ℕ
  pub start : ℕ

-- TP: in phase 0 no pulse has started, in phase 1 it began at the moment `start` and is on, in phase 2 it is over and IN
-- has not been FALSE since
pub record TpFields : Type 0 where
  pub input : Bool
  pub pt : ℤ
  pub q : Bool
  pub et : ℤ
  pub phase : ℕ
  pub start : ℕ

-- Q is TRUE at a call whose CLK is TRUE and was not at the call before
abbrev pub r_trig_step : RTrigFields → RTrigFields
r_trig_step f = record { clk = f.clk; q = f.clk && not f.m; m = f.clk }

-- `Q1 := S1 OR (NOT R AND Q1)`
abbrev pub sr_step : SrFields → SrFields
sr_step f = record { s1 = f.s1; r = f.r; q1 = f.s1 || (not f.r && f.q1) }

-- `Q1 := NOT R1 AND (S OR Q1)`
abbrev pub rs_step : RsFields → RsFields
rs_step f = record { s = f.s; r1 = f.r1; q1 = not f.r1 && (f.s || f.q1) }

-- 0 if R is TRUE; else one more at an edge of CU, short of the greatest number
abbrev pub ctu_count : CtuFields → ℤ
ctu_count f = if f.r then pos 0 else (if f.cu && not f.m && int_lt f.cv (pos 2147483647) then f.cv +ℤ pos 1 else f.cv)

-- the count, and whether it has come to PV
abbrev pub ctu_step : CtuFields → CtuFields
ctu_step f = record { cu = f.cu; r = f.r; pv = f.pv; q = int_le f.pv (ctu_count f); cv = ctu_count f; m = f.cu }

-- the preset time: PT, or 0 if it is negative
abbrev pub preset : ℤ → ℕ
preset (pos pt) = pt
preset (negsuc pt) = 0

-- the time since a moment, up to the preset time
abbrev pub elapsed : ℤ → ℕ → ℕ → ℤ
elapsed pt start now = pos (min (now - start) (preset pt))

-- from the moment `start` on, Q is TRUE once the preset time has passed
abbrev pub ton_running : TonFields → ℕ → ℕ → TonFields
ton_running f now start = record { input = f.input; pt = f.pt; q = nat_le (preset f.pt) (now - start); et = elapsed f.pt start now; run = true; start = start }

-- with IN FALSE nothing runs
abbrev pub ton_idle : TonFields → TonFields
ton_idle f = record { input = f.input; pt = f.pt; q = false; et = pos 0; run = false; start = f.start }

-- a call of TON at a moment
abbrev pub ton_step : ℕ → TonFields → TonFields
ton_step now f = if f.input then ton_running f now (if f.run then f.start else now) else ton_idle f

-- from the moment `start` on, Q is TRUE until the preset time has passed
abbrev pub tof_falling : TofFields → ℕ → ℕ → TofFields
tof_falling f now start = record { input = f.input; pt = f.pt; q = nat_lt (now - start) (preset f.pt); et = elapsed f.pt start now; phase = 2; start = start }

-- with IN FALSE, by the phase
abbrev pub tof_released : ℕ → TofFields → ℕ → TofFields
tof_released zero f now = record { input = f.input; pt = f.pt; q = false; et = pos 0; phase = 0; start = f.start }
tof_released (suc zero) f now = tof_falling f now now
tof_released (suc (suc phase)) f now = tof_falling f now f.start

-- with IN TRUE
abbrev pub tof_held : TofFields → TofFields
tof_held f = record { input = f.input; pt = f.pt; q = true; et = pos 0; phase = 1; start = f.start }

-- a call of TOF at a moment
abbrev pub tof_step : ℕ → TofFields → TofFields
tof_step now f = if f.input then tof_held f else tof_released f.phase f now

-- the pulse that began at the moment `start` is on, and ET is the time since then
abbrev pub tp_pulsing : TpFields → ℕ → ℕ → TpFields
tp_pulsing f now start = record { input = f.input; pt = f.pt; q = true; et = pos (now - start); phase = 1; start = start }

-- no pulse has started, or IN is FALSE after its end
abbrev pub tp_idle : TpFields → TpFields
tp_idle f = record { input = f.input; pt = f.pt; q = false; et = pos 0; phase = 0; start = f.start }

-- the pulse that began at the moment `start` is over, and IN is TRUE: ET is the preset time
abbrev pub tp_held : TpFields → ℕ → TpFields
tp_held f start = record { input = f.input; pt = f.pt; q = false; et = pos (preset f.pt); phase = 2; start = start }

-- it is over, and stays so until IN is FALSE
abbrev pub tp_over : TpFields → ℕ → TpFields
tp_over f start = if f.input then tp_held f start else tp_idle f

-- a pulse that began at the moment `start` is over once the preset time has passed
abbrev pub tp_started : TpFields → ℕ → ℕ → TpFields
tp_started f now start = if nat_le (preset f.pt) (now - start) then tp_over f start else tp_pulsing f now start

-- a call of TP, by the phase that it finds
abbrev pub tp_from : ℕ → TpFields → ℕ → TpFields
tp_from zero f now = if f.input then tp_started f now now else tp_idle f
tp_from (suc zero) f now = tp_started f now f.start
tp_from (suc (suc phase)) f now = tp_over f f.start

-- a call of TP at a moment
abbrev pub tp_step : ℕ → TpFields → TpFields
tp_step now f = tp_from f.phase f now
