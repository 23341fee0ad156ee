-- Statements about the definitions of the language.
use Rattle.std.specs.Prelude.{◌≡◌, ℕ, suc, ◌≤◌, true, List, [], ◌∷◌, ◌↔◌, ◌⊎◌, length, Option, Some, None, ℤ, Bool}
use Rattle.wc_model.specs.Definitions.{RTrigFields, SrFields, RsFields, CtuFields, TonFields, TofFields, TpFields, r_trig_step, sr_step, rs_step, ctu_step, ton_step, tof_step, tp_step, MOST_STEPS, SrCall, RsCall, CtuCall, TimerCall, FitsRTrig, FitsSr, FitsRs, FitsCtu, FitsTon, FitsTof, FitsTp, IsLoaded, Context, Outcome, Done, Stuck, Running, Seeking, Returned, ahead, means, program_means, Lead, keeps, lead_of, Name, IsPath, IsLongest, IsProgramBound, NoLabelAhead, Location, Store, Item, Lines, ProgramUnit, Text, IsWrapped, wrap, IsWorstPath, steps_of, Scope, IsBoundAt, IsBoundOf}
use Rattle.wc_model.specs.Language.Checks.{Check, Refusal, Position, IsFirstBroken, first_broken, positions_of}
use Rattle.wc_model.specs.declared.value.Value.{Value}
use Rattle.std.specs.List.{AllByRecursion}

-- `wrap n` is of 32 bits and of n's class, and no other number is
abbrev pub WrapIsTheOnlyOne : Type 0
WrapIsTheOnlyOne = (n w : ℤ) → IsWrapped n w ↔ (w ≡ wrap n)

-- what the lines from a label on mean
abbrev pub from_label : Context → Option Lines → Option Value → Store → Outcome
from_label here None result store = Stuck NoLabelAhead
from_label here (Some rest) result store = means here rest (Running result) store

-- a run that looks for a label goes on with the rest of the lines from the first that carries it, and is stuck if none does
abbrev pub JumpGoesOnAhead : Type 0
JumpGoesOnAhead = (here : Context) (lines : Lines) (label : Name) (result : Option Value) (store : Store) →
    means here lines (Seeking label result) store ≡ from_label here (ahead lines label) result store

-- after a return nothing more is done
abbrev pub ReturnEndsTheBody : Type 0
ReturnEndsTheBody = (here : Context) (lines : Lines) (result : Option Value) (store : Store) →
    means here lines (Returned result) store ≡ Done result store []

-- a text that takes its own place keeps each place that it has
abbrev pub ATextKeepsItsPlaces : Type 0
ATextKeepsItsPlaces = (text : Text) (place : Location) (lead : Lead) → lead_of text place ≡ Some lead → keeps text text place ≡ true

-- the call that the fields of a block are set up for
abbrev pub sr_call : SrFields → SrCall
sr_call f = record { s1 = f.s1; r = f.r }

abbrev pub rs_call : RsFields → RsCall
rs_call f = record { s = f.s; r1 = f.r1 }

abbrev pub ctu_call : CtuFields → CtuCall
ctu_call f = record { cu = f.cu; r = f.r; pv = f.pv }

abbrev pub ton_call : ℕ → TonFields → TimerCall
ton_call now f = record { moment = now; input = f.input; pt = f.pt }

abbrev pub tof_call : ℕ → TofFields → TimerCall
tof_call now f = record { moment = now; input = f.input; pt = f.pt }

abbrev pub tp_call : ℕ → TpFields → TimerCall
tp_call now f = record { moment = now; input = f.input; pt = f.pt }

-- fields that fit a history fit, after a call, that history followed by this call
abbrev pub RTrigKeepsItsHistory : Type 0
RTrigKeepsItsHistory = (clks : List Bool) (f : RTrigFields) → FitsRTrig clks f → FitsRTrig (f.clk ∷ clks) (r_trig_step f)

abbrev pub SrKeepsItsHistory : Type 0
SrKeepsItsHistory = (calls : List SrCall) (f : SrFields) → FitsSr calls f → FitsSr (sr_call f ∷ calls) (sr_step f)

abbrev pub RsKeepsItsHistory : Type 0
RsKeepsItsHistory = (calls : List RsCall) (f : RsFields) → FitsRs calls f → FitsRs (rs_call f ∷ calls) (rs_step f)

abbrev pub CtuKeepsItsHistory : Type 0
CtuKeepsItsHistory = (calls : List CtuCall) (f : CtuFields) → FitsCtu calls f → FitsCtu (ctu_call f ∷ calls) (ctu_step f)

abbrev pub TonKeepsItsHistory : Type 0
TonKeepsItsHistory = (now : ℕ) (calls : List TimerCall) (f : TonFields) → FitsTon calls f → FitsTon (ton_call now f ∷ calls) (ton_step now f)

abbrev pub TofKeepsItsHistory : Type 0
TofKeepsItsHistory = (now : ℕ) (calls : List TimerCall) (f : TofFields) → FitsTof calls f → FitsTof (tof_call now f ∷ calls) (tof_step now f)

abbrev pub TpKeepsItsHistory : Type 0
TpKeepsItsHistory = (now : ℕ) (calls : List TimerCall) (f : TpFields) → FitsTp calls f → FitsTp (tp_call now f ∷ calls) (tp_step now f)

-- the first fault is a broken rule, and no rule that is asked before it is broken; and there is one if any is broken
abbrev pub FirstFaultIsFirst : Type 0
FirstFaultIsFirst = (checks : List Check) (refusal : Refusal) → (first_broken checks ≡ Some refusal) ↔ IsFirstBroken checks refusal

-- a worst path of a unit is a path of it, and none is longer
abbrev pub WorstPathIsLongest : Type 0
WorstPathIsLongest = (scope : Scope) (path : List Item) → IsWorstPath scope path → IsLongest scope (length path)

-- each unit has a worst path, or no path at all
abbrev pub EachUnitHasAWorstPath : Type 0
EachUnitHasAWorstPath = (scope : Scope) → ((path : List Item) × IsWorstPath scope path) ⊎ ((path : List Item) → IsPath scope path → ⊥)

-- a unit has a longest path, which is within the limit
abbrev pub HasABound : Position ProgramUnit → Type 0
HasABound position = (bound : ℕ) × IsBoundOf position bound × (bound ≤ MOST_STEPS)

-- each unit of a text that is loaded has a bound, whether another calls it or none
abbrev pub EachLoadedUnitHasABound : Type 0
EachLoadedUnitHasABound = (bytes : List ℕ) (text : Text) → IsLoaded bytes text → AllByRecursion HasABound (positions_of text)

-- a unit has one bound at most
abbrev pub AUnitHasOneBound : Type 0
AUnitHasOneBound = (scope : Scope) (m n : ℕ) → IsLongest scope m → IsLongest scope n → m ≡ n

-- the bound of a text's last unit, which a check prints last, is that of its program, and no other number is
abbrev pub ThePrintedBoundIsThePrograms : Type 0
ThePrintedBoundIsThePrograms = (text : Text) (place n : ℕ) → length text ≡ suc place → IsBoundAt text place n →
    IsProgramBound text n × ((m : ℕ) → IsProgramBound text m → m ≡ n)

-- no run of a program executes more items than its longest path has, whatever the store and the moment
abbrev pub NoRunIsLongerThanThePaths : Type 0
NoRunIsLongerThanThePaths = (before : List ProgramUnit) (program : ProgramUnit) (n : ℕ) → IsLongest (record { before = before; unit = program }) n →
    (now : ℕ) (store : Store) → steps_of (program_means before program now store) ≤ n
