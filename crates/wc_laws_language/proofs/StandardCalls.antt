-- A call of an instance of a standard block is never stuck, and keeps the kinds of all places.
use Rattle.wc_model.proofs.Common.{◌≡◌, ℕ, Bool, List, [], ◌∷◌, ◌++◌, map, Option, Some, Result, ℤ, append_assoc, refl, ap, ◌∙◌, codes}
use Rattle.std.specs.Option.{option_map}
use Rattle.wc_model.specs.Definitions.{field_at, with_truth, with_dint, with_time, with_moment, with_phase, with_fields, r_trig_contents, r_trig_called, sr_contents, sr_called, rs_contents, rs_called, ctu_contents, ctu_called, ton_contents, ton_called, tof_contents, tof_called, tp_contents, tp_called, standard_called, RTrigFields, SrFields, RsFields, CtuFields, TonFields, TofFields, TpFields, r_trig_step, sr_step, rs_step, ctu_step, ton_step, tof_step, tp_step, Variable, VariableType, Standard, type_named, variable_named, Name, Reason, Scope}
use Rattle.wc_model.specs.Language.Store.{Path, Content, Plain, Moment, Phase, Store, with_content, standard_fields, variable_places, block_places}
use Rattle.wc_model.specs.declared.block.StandardBlock.{StandardBlock}
use Rattle.wc_model.specs.declared.block.StandardBlock.TheVariants.{RTrig, Sr, Rs, Ctu, Ton, Tof, Tp}
use Rattle.wc_model.specs.declared.kind.SlotKind.TheVariants.{Bool as SlotBool, Dint as SlotDint, Time as SlotTime, Moment as SlotMoment, Phase as SlotPhase}
use Rattle.wc_model.specs.declared.value.Value.TheVariants.{Bool as Truth, Dint, Time}
use Rattle.wc_laws_language.proofs.Entities.{Writes}
use Rattle.wc_laws_language.proofs.Places.{SameSlots-refl, SameSlots-trans, with_content-keeps, places_of, own_content}
use Rattle.wc_laws_language.specs.Typing.{slot_of, slot_at, SameSlots, content_at, FitsScope}

-- fields of these kinds are written one after another
abbrev pub AllTyped : Store → List Name → List (Name × Content) → Type 0
AllTyped store instance [] = Unit {0}
AllTyped store instance (f ∷ fields) = (slot_at store (Path (instance ++ f.0 ∷ [])) ≡ Some (slot_of f.1)) × AllTyped store instance fields

pub AllTyped-same : (old new : Store) (instance : List Name) (fields : List (Name × Content)) → SameSlots old new → AllTyped old instance fields → AllTyped new instance fields
AllTyped-same old new instance [] same t = tt
AllTyped-same old new instance (f ∷ fields) same t = (same (Path (instance ++ f.0 ∷ [])) ∙ t.0, AllTyped-same old new instance fields same t.1)

pub with_fields-keeps : (store : Store) (instance : List Name) (fields : List (Name × Content)) → AllTyped store instance fields → SameSlots store (with_fields store instance fields)
with_fields-keeps store instance [] t = SameSlots-refl store
with_fields-keeps store instance (f ∷ fields) t =
    let one = with_content-keeps store (Path (instance ++ f.0 ∷ [])) f.1 t.0 in
    let next : Store = with_content store (Path (instance ++ f.0 ∷ [])) f.1 in
    SameSlots-trans store next (with_fields next instance fields) one (with_fields-keeps next instance fields (AllTyped-same store next instance fields one t.1))

-- a field of a kind has a value of it
pub truth-given : (store : Store) (c : Option Content) → option_map slot_of c ≡ Some SlotBool → (go : Bool → Result Store Reason) → ((b : Bool) → Writes store (go b)) → Writes store (with_truth c go)
truth-given store (Some (Plain (Truth b))) e go h = h b
truth-given store (Some (Plain (Dint n))) e go h = cc
truth-given store other e go h = cc

pub dint-given : (store : Store) (c : Option Content) → option_map slot_of c ≡ Some SlotDint → (go : ℤ → Result Store Reason) → ((n : ℤ) → Writes store (go n)) → Writes store (with_dint c go)
dint-given store (Some (Plain (Dint n))) e go h = h n
dint-given store (Some (Plain (Truth b))) e go h = cc
dint-given store other e go h = cc

pub time-given : (store : Store) (c : Option Content) → option_map slot_of c ≡ Some SlotTime → (go : ℤ → Result Store Reason) → ((n : ℤ) → Writes store (go n)) → Writes store (with_time c go)
time-given store (Some (Plain (Time t))) e go h = h t
time-given store (Some (Plain (Truth b))) e go h = cc
time-given store other e go h = cc

pub moment-given : (store : Store) (c : Option Content) → option_map slot_of c ≡ Some SlotMoment → (go : ℕ → Result Store Reason) → ((n : ℕ) → Writes store (go n)) → Writes store (with_moment c go)
moment-given store (Some (Moment m)) e go h = h m
moment-given store (Some (Plain (Truth b))) e go h = cc
moment-given store other e go h = cc

pub phase-given : (store : Store) (c : Option Content) → option_map slot_of c ≡ Some SlotPhase → (go : ℕ → Result Store Reason) → ((n : ℕ) → Writes store (go n)) → Writes store (with_phase c go)
phase-given store (Some (Phase p)) e go h = h p
phase-given store (Some (Plain (Truth b))) e go h = cc
phase-given store other e go h = cc

-- the store holds the fields of this block below these names
abbrev pub HoldsBlock : Store → List Name → StandardBlock → Type 0
HoldsBlock store instance block = (field : Name) (content : Content) → content_at (map (λ f. (f.0 ∷ [], f.1)) (standard_fields block)) (field ∷ []) ≡ Some content → slot_at store (Path (instance ++ field ∷ [])) ≡ Some (slot_of content)

pub r_trig-safe : (store : Store) (instance : List Name) → HoldsBlock store instance RTrig → Writes store (r_trig_called store instance)
r_trig-safe store instance h =
    let clk = h (codes "clk") _ refl in
    let q = h (codes "q") _ refl in
    let m = h (codes "m") _ refl in
    truth-given store (field_at store instance (codes "clk")) clk _ (λ a.
    truth-given store (field_at store instance (codes "q")) q _ (λ b.
    truth-given store (field_at store instance (codes "m")) m _ (λ d.
    let f : RTrigFields = r_trig_step (record { clk = a; q = b; m = d }) in
    (with_fields store instance (r_trig_contents f), refl, with_fields-keeps store instance (r_trig_contents f) (clk, (q, (m, tt)))))))

pub sr-safe : (store : Store) (instance : List Name) → HoldsBlock store instance Sr → Writes store (sr_called store instance)
sr-safe store instance h =
    let s1 = h (codes "s1") _ refl in
    let r = h (codes "r") _ refl in
    let q1 = h (codes "q1") _ refl in
    truth-given store (field_at store instance (codes "s1")) s1 _ (λ a.
    truth-given store (field_at store instance (codes "r")) r _ (λ b.
    truth-given store (field_at store instance (codes "q1")) q1 _ (λ d.
    let f : SrFields = sr_step (record { s1 = a; r = b; q1 = d }) in
    (with_fields store instance (sr_contents f), refl, with_fields-keeps store instance (sr_contents f) (s1, (r, (q1, tt)))))))

pub rs-safe : (store : Store) (instance : List Name) → HoldsBlock store instance Rs → Writes store (rs_called store instance)
rs-safe store instance h =
    let s = h (codes "s") _ refl in
    let r1 = h (codes "r1") _ refl in
    let q1 = h (codes "q1") _ refl in
    truth-given store (field_at store instance (codes "s")) s _ (λ a.
    truth-given store (field_at store instance (codes "r1")) r1 _ (λ b.
    truth-given store (field_at store instance (codes "q1")) q1 _ (λ d.
    let f : RsFields = rs_step (record { s = a; r1 = b; q1 = d }) in
    (with_fields store instance (rs_contents f), refl, with_fields-keeps store instance (rs_contents f) (s, (r1, (q1, tt)))))))

pub ctu-safe : (store : Store) (instance : List Name) → HoldsBlock store instance Ctu → Writes store (ctu_called store instance)
ctu-safe store instance h =
    let cu = h (codes "cu") _ refl in
    let r = h (codes "r") _ refl in
    let pv = h (codes "pv") _ refl in
    let q = h (codes "q") _ refl in
    let cv = h (codes "cv") _ refl in
    let m = h (codes "m") _ refl in
    truth-given store (field_at store instance (codes "cu")) cu _ (λ a1.
    truth-given store (field_at store instance (codes "r")) r _ (λ a2.
    dint-given store (field_at store instance (codes "pv")) pv _ (λ a3.
    truth-given store (field_at store instance (codes "q")) q _ (λ a4.
    dint-given store (field_at store instance (codes "cv")) cv _ (λ a5.
    truth-given store (field_at store instance (codes "m")) m _ (λ a6.
    let f : CtuFields = ctu_step (record { cu = a1; r = a2; pv = a3; q = a4; cv = a5; m = a6 }) in
    (with_fields store instance (ctu_contents f), refl, with_fields-keeps store instance (ctu_contents f) (cu, (r, (pv, (q, (cv, (m, tt)))))))))))))

pub ton-safe : (now : ℕ) (store : Store) (instance : List Name) → HoldsBlock store instance Ton → Writes store (ton_called now store instance)
ton-safe now store instance h =
    let input = h (codes "in") _ refl in
    let pt = h (codes "pt") _ refl in
    let q = h (codes "q") _ refl in
    let et = h (codes "et") _ refl in
    let run = h (codes "run") _ refl in
    let start = h (codes "start") _ refl in
    truth-given store (field_at store instance (codes "in")) input _ (λ a1.
    time-given store (field_at store instance (codes "pt")) pt _ (λ a2.
    truth-given store (field_at store instance (codes "q")) q _ (λ a3.
    time-given store (field_at store instance (codes "et")) et _ (λ a4.
    truth-given store (field_at store instance (codes "run")) run _ (λ a5.
    moment-given store (field_at store instance (codes "start")) start _ (λ a6.
    let f : TonFields = ton_step now (record { input = a1; pt = a2; q = a3; et = a4; run = a5; start = a6 }) in
    (with_fields store instance (ton_contents f), refl, with_fields-keeps store instance (ton_contents f) (input, (pt, (q, (et, (run, (start, tt)))))))))))))

pub tof-safe : (now : ℕ) (store : Store) (instance : List Name) → HoldsBlock store instance Tof → Writes store (tof_called now store instance)
tof-safe now store instance h =
    let input = h (codes "in") _ refl in
    let pt = h (codes "pt") _ refl in
    let q = h (codes "q") _ refl in
    let et = h (codes "et") _ refl in
    let phase = h (codes "phase") _ refl in
    let start = h (codes "start") _ refl in
    truth-given store (field_at store instance (codes "in")) input _ (λ a1.
    time-given store (field_at store instance (codes "pt")) pt _ (λ a2.
    truth-given store (field_at store instance (codes "q")) q _ (λ a3.
    time-given store (field_at store instance (codes "et")) et _ (λ a4.
    phase-given store (field_at store instance (codes "phase")) phase _ (λ a5.
    moment-given store (field_at store instance (codes "start")) start _ (λ a6.
    let f : TofFields = tof_step now (record { input = a1; pt = a2; q = a3; et = a4; phase = a5; start = a6 }) in
    (with_fields store instance (tof_contents f), refl, with_fields-keeps store instance (tof_contents f) (input, (pt, (q, (et, (phase, (start, tt)))))))))))))

pub tp-safe : (now : ℕ) (store : Store) (instance : List Name) → HoldsBlock store instance Tp → Writes store (tp_called now store instance)
tp-safe now store instance h =
    let input = h (codes "in") _ refl in
    let pt = h (codes "pt") _ refl in
    let q = h (codes "q") _ refl in
    let et = h (codes "et") _ refl in
    let phase = h (codes "phase") _ refl in
    let start = h (codes "start") _ refl in
    truth-given store (field_at store instance (codes "in")) input _ (λ a1.
    time-given store (field_at store instance (codes "pt")) pt _ (λ a2.
    truth-given store (field_at store instance (codes "q")) q _ (λ a3.
    time-given store (field_at store instance (codes "et")) et _ (λ a4.
    phase-given store (field_at store instance (codes "phase")) phase _ (λ a5.
    moment-given store (field_at store instance (codes "start")) start _ (λ a6.
    let f : TpFields = tp_step now (record { input = a1; pt = a2; q = a3; et = a4; phase = a5; start = a6 }) in
    (with_fields store instance (tp_contents f), refl, with_fields-keeps store instance (tp_contents f) (input, (pt, (q, (et, (phase, (start, tt)))))))))))))

pub standard-safe : (block : StandardBlock) (now : ℕ) (store : Store) (instance : List Name) → HoldsBlock store instance block → Writes store (standard_called block now store instance)
standard-safe RTrig now store instance h = r_trig-safe store instance h
standard-safe Sr now store instance h = sr-safe store instance h
standard-safe Rs now store instance h = rs-safe store instance h
standard-safe Ctu now store instance h = ctu-safe store instance h
standard-safe Ton now store instance h = ton-safe now store instance h
standard-safe Tof now store instance h = tof-safe now store instance h
standard-safe Tp now store instance h = tp-safe now store instance h

-- an instance of a unit is held
pub block_held : (store : Store) (names : List Name) (scope : Scope) → FitsScope store names scope → (instance : Name) (v : Variable) → variable_named scope.unit instance ≡ Some v → (block : StandardBlock) → type_named scope.before v.type_name ≡ Some (Standard block) → HoldsBlock store (names ++ instance ∷ []) block
block_held store names scope fits instance v found block typed field content e =
    let places : places_of scope.before v ≡ map (λ f. (f.0 ∷ [], f.1)) (standard_fields block) = ap (λ (t : Option VariableType). variable_places (block_places scope.before) t v.initial) typed in
    let there : content_at (places_of scope.before v) (field ∷ []) ≡ Some content = ap (λ (ps : List (List Name × Content)). content_at ps (field ∷ [])) places ∙ e in
    ap (λ (path : List Name). slot_at store (Path path)) (append_assoc names (instance ∷ []) (field ∷ [])) ∙ fits.own (instance ∷ field ∷ []) content (own_content scope.before scope.unit instance v (field ∷ []) content found there)
