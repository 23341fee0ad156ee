-- A call of an instance of a standard block: its fields are taken from the store, and written back after one step (IEC
-- 61131-3:2003, 2.5.2.1 and 2.5.2.3).
use Rattle.std.specs.Prelude.{ℕ, Bool, List, [], ◌∷◌, ◌++◌, Option, Some, Result, Ok, Err, ℤ, codes}
use Rattle.wc_model.specs.Language.Blocks.{RTrigFields, SrFields, RsFields, CtuFields, TonFields, TofFields, TpFields, r_trig_step, sr_step, rs_step, ctu_step, ton_step, tof_step, tp_step}
use Rattle.wc_model.specs.Language.Names.{Name}
use Rattle.wc_model.specs.Language.Reasons.{Reason, NoSuchPlace}
use Rattle.wc_model.specs.Language.Store.{Path, Content, Plain, Moment, Phase, Store, with_content}
use Rattle.wc_model.specs.declared.block.StandardBlock.{StandardBlock}
use Rattle.wc_model.specs.declared.block.StandardBlock.TheVariants.{RTrig, Sr, Rs, Ctu, Ton, Tof, Tp}
use Rattle.wc_model.specs.declared.value.Value.TheVariants.{Bool as Truth, Dint, Time}

-- the content of a field of an instance
abbrev pub field_at : Store → List Name → Name → Option Content
field_at store instance name = store (Path (instance ++ name ∷ []))

-- goes on with a BOOL, a DINT, a TIME, a moment or a phase, if the field has one
abbrev pub with_truth : {X : Type 0} → Option Content → (Bool → Result X Reason) → Result X Reason
with_truth (Some (Plain (Truth b))) go = go b
with_truth other go = Err NoSuchPlace

abbrev pub with_dint : {X : Type 0} → Option Content → (ℤ → Result X Reason) → Result X Reason
with_dint (Some (Plain (Dint n))) go = go n
with_dint other go = Err NoSuchPlace

abbrev pub with_time : {X : Type 0} → Option Content → (ℤ → Result X Reason) → Result X Reason
with_time (Some (Plain (Time t))) go = go t
with_time other go = Err NoSuchPlace

abbrev pub with_moment : {X : Type 0} → Option Content → (ℕ → Result X Reason) → Result X Reason
with_moment (Some (Moment m)) go = go m
with_moment other go = Err NoSuchPlace

abbrev pub with_phase : {X : Type 0} → Option Content → (ℕ → Result X Reason) → Result X Reason
with_phase (Some (Phase p)) go = go p
with_phase other go = Err NoSuchPlace

-- the store with these contents of fields of an instance
abbrev pub with_fields : Store → List Name → List (Name × Content) → Store
with_fields store instance [] = store
with_fields store instance (field ∷ fields) = with_fields (with_content store (Path (instance ++ field.0 ∷ [])) field.1) instance fields

-- R_TRIG
abbrev pub r_trig_contents : RTrigFields → List (Name × Content)
r_trig_contents f = (codes "clk", Plain (Truth f.clk)) ∷ (codes "q", Plain (Truth f.q)) ∷ (codes "m", Plain (Truth f.m)) ∷ []

abbrev pub r_trig_called : Store → List Name → Result Store Reason
r_trig_called store instance =
    with_truth (field_at store instance (codes "clk")) (λ clk.
    with_truth (field_at store instance (codes "q")) (λ q.
    with_truth (field_at store instance (codes "m")) (λ m.
    Ok (with_fields store instance (r_trig_contents (r_trig_step (record { clk = clk; q = q; m = m })))))))

-- SR
abbrev pub sr_contents : SrFields → List (Name × Content)
sr_contents f = (codes "s1", Plain (Truth f.s1)) ∷ (codes "r", Plain (Truth f.r)) ∷ (codes "q1", Plain (Truth f.q1)) ∷ []

abbrev pub sr_called : Store → List Name → Result Store Reason
sr_called store instance =
    with_truth (field_at store instance (codes "s1")) (λ s1.
    with_truth (field_at store instance (codes "r")) (λ r.
    with_truth (field_at store instance (codes "q1")) (λ q1.
    Ok (with_fields store instance (sr_contents (sr_step (record { s1 = s1; r = r; q1 = q1 })))))))

-- RS
abbrev pub rs_contents : RsFields → List (Name × Content)
rs_contents f = (codes "s", Plain (Truth f.s)) ∷ (codes "r1", Plain (Truth f.r1)) ∷ (codes "q1", Plain (Truth f.q1)) ∷ []

abbrev pub rs_called : Store → List Name → Result Store Reason
rs_called store instance =
    with_truth (field_at store instance (codes "s")) (λ s.
    with_truth (field_at store instance (codes "r1")) (λ r1.
    with_truth (field_at store instance (codes "q1")) (λ q1.
    Ok (with_fields store instance (rs_contents (rs_step (record { s = s; r1 = r1; q1 = q1 })))))))

-- CTU
abbrev pub ctu_contents : CtuFields → List (Name × Content)
ctu_contents f = (codes "cu", Plain (Truth f.cu)) ∷ (codes "r", Plain (Truth f.r)) ∷ (codes "pv", Plain (Dint f.pv)) ∷ (codes "q", Plain (Truth f.q)) ∷ (codes "cv", Plain (Dint f.cv)) ∷ (codes "m", Plain (Truth f.m)) ∷ []

abbrev pub ctu_called : Store → List Name → Result Store Reason
ctu_called store instance =
    with_truth (field_at store instance (codes "cu")) (λ cu.
    with_truth (field_at store instance (codes "r")) (λ r.
    with_dint (field_at store instance (codes "pv")) (λ pv.
    with_truth (field_at store instance (codes "q")) (λ q.
    with_dint (field_at store instance (codes "cv")) (λ cv.
    with_truth (field_at store instance (codes "m")) (λ m.
    Ok (with_fields store instance (ctu_contents (ctu_step (record { cu = cu; r = r; pv = pv; q = q; cv = cv; m = m }))))))))))

-- TON, at a moment
abbrev pub ton_contents : TonFields → List (Name × Content)
ton_contents f = (codes "in", Plain (Truth f.input)) ∷ (codes "pt", Plain (Time f.pt)) ∷ (codes "q", Plain (Truth f.q)) ∷ (codes "et", Plain (Time f.et)) ∷ (codes "run", Plain (Truth f.run)) ∷ (codes "start", Moment f.start) ∷ []

abbrev pub ton_called : ℕ → Store → List Name → Result Store Reason
ton_called now store instance =
    with_truth (field_at store instance (codes "in")) (λ input.
    with_time (field_at store instance (codes "pt")) (λ pt.
    with_truth (field_at store instance (codes "q")) (λ q.
    with_time (field_at store instance (codes "et")) (λ et.
    with_truth (field_at store instance (codes "run")) (λ run.
    with_moment (field_at store instance (codes "start")) (λ start.
    Ok (with_fields store instance (ton_contents (ton_step now (record { input = input; pt = pt; q = q; et = et; run = run; start = start }))))))))))

-- TOF, at a moment
abbrev pub tof_contents : TofFields → List (Name × Content)
tof_contents f = (codes "in", Plain (Truth f.input)) ∷ (codes "pt", Plain (Time f.pt)) ∷ (codes "q", Plain (Truth f.q)) ∷ (codes "et", Plain (Time f.et)) ∷ (codes "phase", Phase f.phase) ∷ (codes "start", Moment f.start) ∷ []

abbrev pub tof_called : ℕ → Store → List Name → Result Store Reason
tof_called now store instance =
    with_truth (field_at store instance (codes "in")) (λ input.
    with_time (field_at store instance (codes "pt")) (λ pt.
    with_truth (field_at store instance (codes "q")) (λ q.
    with_time (field_at store instance (codes "et")) (λ et.
    with_phase (field_at store instance (codes "phase")) (λ phase.
    with_moment (field_at store instance (codes "start")) (λ start.
    Ok (with_fields store instance (tof_contents (tof_step now (record { input = input; pt = pt; q = q; et = et; phase = phase; start = start }))))))))))

-- TP, at a moment
abbrev pub tp_contents : TpFields → List (Name × Content)
tp_contents f = (codes "in", Plain (Truth f.input)) ∷ (codes "pt", Plain (Time f.pt)) ∷ (codes "q", Plain (Truth f.q)) ∷ (codes "et", Plain (Time f.et)) ∷ (codes "phase", Phase f.phase) ∷ (codes "start", Moment f.start) ∷ []

abbrev pub tp_called : ℕ → Store → List Name → Result Store Reason
tp_called now store instance =
    with_truth (field_at store instance (codes "in")) (λ input.
    with_time (field_at store instance (codes "pt")) (λ pt.
    with_truth (field_at store instance (codes "q")) (λ q.
    with_time (field_at store instance (codes "et")) (λ et.
    with_phase (field_at store instance (codes "phase")) (λ phase.
    with_moment (field_at store instance (codes "start")) (λ start.
    Ok (with_fields store instance (tp_contents (tp_step now (record { input = input; pt = pt; q = q; et = et; phase = phase; start = start }))))))))))

-- the store after a call of the instance to which these names lead
abbrev pub standard_called : StandardBlock → ℕ → Store → List Name → Result Store Reason
standard_called RTrig now store instance = r_trig_called store instance
standard_called Sr now store instance = sr_called store instance
standard_called Rs now store instance = rs_called store instance
standard_called Ctu now store instance = ctu_called store instance
standard_called Ton now store instance = ton_called now store instance
standard_called Tof now store instance = tof_called now store instance
standard_called Tp now store instance = tp_called now store instance
