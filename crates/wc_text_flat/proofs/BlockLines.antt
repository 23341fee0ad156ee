-- A flat call of a standard block follows the tree's.
use Rattle.wc_model.proofs.Common.{◌≡◌, ℕ, suc, ◌+◌, Bool, true, List, [], ◌∷◌, ◌++◌, map, Option, Some, None, Result, Ok, Err, ℤ, append_assoc, refl, sym, ap, subst, ◌∙◌, arith, slice_get, slice_set, codes, if◌then◌else◌}
use Rattle.std.specs.Option.{option_map}
use Rattle.wc_text_flat.proofs.InstancePlaces.{path_from, instance_number}
use Rattle.wc_text_flat.proofs.PlaceNumbers.{write_both}
use Rattle.wc_text_flat.proofs.Sides.{IsBased}
use Rattle.wc_text_flat.proofs.Values.{bit_of-number}
use Rattle.wc_text_flat.specs.{AreContents, first_place, field_numbers, is_slot, number_from, with_numbers, given_bit, given_natural, block_called, given}
use Rattle.wc_model.specs.Definitions.{field_at, with_truth, with_dint, with_time, with_moment, with_phase, with_fields, r_trig_contents, sr_contents, rs_contents, ctu_contents, ton_contents, tof_contents, tp_contents, standard_called, RTrigFields, SrFields, RsFields, CtuFields, TonFields, TofFields, TpFields, r_trig_step, sr_step, rs_step, ctu_step, ton_step, tof_step, tp_step, Variable, VariableType, Standard, type_named, variable_named, content_number, place_number, slot_kind_of, slot_kinds, Name, Reason, Scope}
use Rattle.wc_model.specs.Language.Store.{Location, Path, Content, Plain, Moment, Phase, Store, with_content, standard_fields, variable_places, block_places}
use Rattle.wc_model.specs.declared.block.StandardBlock.{StandardBlock}
use Rattle.wc_model.specs.declared.block.StandardBlock.TheVariants.{RTrig, Sr, Rs, Ctu, Ton, Tof, Tp}
use Rattle.wc_model.specs.declared.kind.SlotKind.{SlotKind}
use Rattle.wc_model.specs.declared.kind.SlotKind.TheVariants as slots
use Rattle.wc_model.specs.declared.value.Value.TheVariants.{Bool as Truth, Dint, Time}
use Rattle.wc_laws_language.proofs.Places.{places_of}

-- the fields of an instance are one after another in the frame
abbrev pub FieldsAt : List (Location × Content) → List Name → ℕ → List (Name × Content) → Type 0
FieldsAt frame names at [] = Unit {0}
FieldsAt frame names at (f ∷ fields) = (place_number frame (Path (names ++ f.0 ∷ [])) ≡ Some at) × FieldsAt frame names (suc at) fields

-- and their slots are of their kinds
abbrev pub SlotsAt : List (Location × Content) → ℕ → List (Name × Content) → Type 0
SlotsAt frame at [] = Unit {0}
SlotsAt frame at (f ∷ fields) = (slice_get (slot_kinds frame) at ≡ Some (slot_kind_of f.1)) × SlotsAt frame (suc at) fields

-- fields that are written on both sides
pub fields_written : (frame : List (Location × Content)) (store : Store) (numbers : List ℤ) → AreContents frame store numbers → (names : List Name) (at : ℕ) (fields : List (Name × Content)) → FieldsAt frame names at fields → SlotsAt frame at fields → AreContents frame (with_fields store names fields) (with_numbers numbers at (field_numbers fields))
fields_written frame store numbers contents names at [] h kinds = contents
fields_written frame store numbers contents names at (f ∷ fields) h kinds =
    fields_written frame (with_content store (Path (names ++ f.0 ∷ [])) f.1) (slice_set numbers at (content_number f.1)) (write_both frame store numbers contents (Path (names ++ f.0 ∷ [])) at h.0 f.1 kinds.0) names (suc at) fields h.1 kinds.1

-- if there is a store, its numbers are given
abbrev pub CalledAs : List (Location × Content) → Result Store Reason → Option (List ℤ) → Type 0
CalledAs frame (Ok new) o = (numbers : List ℤ) × AreContents frame new numbers × (o ≡ Some numbers)
CalledAs frame (Err reason) o = Unit {0}

-- what is read of a field: its number, if its slot is of its kind
abbrev pub ReadsField : SlotKind → Option Content → Option ℤ → Type 0
ReadsField kind found o = (content : Content) → found ≡ Some content → slot_kind_of content ≡ kind → o ≡ Some (content_number content)

pub slot_is : (kind : SlotKind) → is_slot kind (Some kind) ≡ true
slot_is slots.Bool = refl
slot_is other = refl

pub field_read : (frame : List (Location × Content)) (store : Store) (numbers : List ℤ) → AreContents frame store numbers → (kind : SlotKind) (place : Location) (at : ℕ) → place_number frame place ≡ Some at → ReadsField kind (store place) (number_from kind (slot_kinds frame) numbers at 0)
field_read frame store numbers contents kind place at e content found same =
    ap (λ (s : Option SlotKind). if is_slot kind s then slice_get numbers at else None)
    (contents.kinds place at e ∙ (ap (λ (c : Option Content). option_map slot_kind_of c) found ∙ ap Some same))
    ∙ (ap (λ (b : Bool). if b then slice_get numbers at else None) (slot_is kind)
    ∙ (contents.each place at e ∙ ap (λ (c : Option Content). option_map content_number c) found))

-- the slot of a field that is there
pub field_slot : (frame : List (Location × Content)) (store : Store) (numbers : List ℤ) → AreContents frame store numbers → (place : Location) (at : ℕ) → place_number frame place ≡ Some at → (content : Content) → store place ≡ Some content → slice_get (slot_kinds frame) at ≡ Some (slot_kind_of content)
field_slot frame store numbers contents place at e content found = contents.kinds place at e ∙ ap (λ (c : Option Content). option_map slot_kind_of c) found

-- a field with its number
pub truth_given : (frame : List (Location × Content)) (c : Option Content) (o : Option ℤ) → ReadsField slots.Bool c o → (go : Bool → Result Store Reason) (flat_go : Bool → Option (List ℤ)) → ((x : Bool) → c ≡ Some (Plain (Truth x)) → CalledAs frame (go x) (flat_go x)) → CalledAs frame (with_truth c go) (given_bit o flat_go)
truth_given frame (Some (Plain (Truth b))) o e go flat_go h = subst (λ (x : Option (List ℤ)). CalledAs frame (go b) x) (sym (ap (λ (x : Option ℤ). given_bit x flat_go) (e (Plain (Truth b)) refl refl) ∙ ap (λ (x : Option Bool). given x flat_go) (bit_of-number b))) (h b refl)
truth_given frame (Some (Plain (Dint n))) o e go flat_go h = tt
truth_given frame other o e go flat_go h = tt

pub dint_given : (frame : List (Location × Content)) (c : Option Content) (o : Option ℤ) → ReadsField slots.Dint c o → (go : ℤ → Result Store Reason) (flat_go : ℤ → Option (List ℤ)) → ((x : ℤ) → c ≡ Some (Plain (Dint x)) → CalledAs frame (go x) (flat_go x)) → CalledAs frame (with_dint c go) (given o flat_go)
dint_given frame (Some (Plain (Truth b))) o e go flat_go h = tt
dint_given frame (Some (Plain (Dint n))) o e go flat_go h = subst (λ (x : Option (List ℤ)). CalledAs frame (go n) x) (sym (ap (λ (x : Option ℤ). given x flat_go) (e (Plain (Dint n)) refl refl))) (h n refl)
dint_given frame (Some (Plain (Time t))) o e go flat_go h = tt
dint_given frame other o e go flat_go h = tt

pub time_given : (frame : List (Location × Content)) (c : Option Content) (o : Option ℤ) → ReadsField slots.Time c o → (go : ℤ → Result Store Reason) (flat_go : ℤ → Option (List ℤ)) → ((x : ℤ) → c ≡ Some (Plain (Time x)) → CalledAs frame (go x) (flat_go x)) → CalledAs frame (with_time c go) (given o flat_go)
time_given frame (Some (Plain (Truth b))) o e go flat_go h = tt
time_given frame (Some (Plain (Dint n))) o e go flat_go h = tt
time_given frame (Some (Plain (Time t))) o e go flat_go h = subst (λ (x : Option (List ℤ)). CalledAs frame (go t) x) (sym (ap (λ (x : Option ℤ). given x flat_go) (e (Plain (Time t)) refl refl))) (h t refl)
time_given frame (Some (Moment m)) o e go flat_go h = tt
time_given frame (Some (Phase p)) o e go flat_go h = tt
time_given frame None o e go flat_go h = tt

pub moment_given : (frame : List (Location × Content)) (c : Option Content) (o : Option ℤ) → ReadsField slots.Moment c o → (go : ℕ → Result Store Reason) (flat_go : ℕ → Option (List ℤ)) → ((x : ℕ) → c ≡ Some (Moment x) → CalledAs frame (go x) (flat_go x)) → CalledAs frame (with_moment c go) (given_natural o flat_go)
moment_given frame (Some (Plain (Truth b))) o e go flat_go h = tt
moment_given frame (Some (Plain (Dint n))) o e go flat_go h = tt
moment_given frame (Some (Plain (Time t))) o e go flat_go h = tt
moment_given frame (Some (Moment m)) o e go flat_go h = subst (λ (x : Option (List ℤ)). CalledAs frame (go m) x) (sym (ap (λ (x : Option ℤ). given_natural x flat_go) (e (Moment m) refl refl))) (h m refl)
moment_given frame (Some (Phase p)) o e go flat_go h = tt
moment_given frame None o e go flat_go h = tt

pub phase_given : (frame : List (Location × Content)) (c : Option Content) (o : Option ℤ) → ReadsField slots.Phase c o → (go : ℕ → Result Store Reason) (flat_go : ℕ → Option (List ℤ)) → ((x : ℕ) → c ≡ Some (Phase x) → CalledAs frame (go x) (flat_go x)) → CalledAs frame (with_phase c go) (given_natural o flat_go)
phase_given frame (Some (Plain (Truth b))) o e go flat_go h = tt
phase_given frame (Some (Plain (Dint n))) o e go flat_go h = tt
phase_given frame (Some (Plain (Time t))) o e go flat_go h = tt
phase_given frame (Some (Moment m)) o e go flat_go h = tt
phase_given frame (Some (Phase p)) o e go flat_go h = subst (λ (x : Option (List ℤ)). CalledAs frame (go p) x) (sym (ap (λ (x : Option ℤ). given_natural x flat_go) (e (Phase p) refl refl))) (h p refl)
phase_given frame None o e go flat_go h = tt

-- each standard block
pub block_follows : (frame : List (Location × Content)) (block : StandardBlock) (now : ℕ) (store : Store) (numbers : List ℤ) → AreContents frame store numbers → (names : List Name) (at : ℕ) → FieldsAt frame names at (standard_fields block) → CalledAs frame (standard_called block now store names) (block_called block now (slot_kinds frame) numbers at)
block_follows frame RTrig now store numbers contents names at h =
    truth_given frame (field_at store names (codes "clk")) (number_from slots.Bool (slot_kinds frame) numbers at 0) (read slots.Bool (Path (names ++ codes "clk" ∷ [])) at h.0) _ _ (λ clk e0.
    truth_given frame (field_at store names (codes "q")) (number_from slots.Bool (slot_kinds frame) numbers at 1) (read slots.Bool (Path (names ++ codes "q" ∷ [])) (suc at) h.1.0) _ _ (λ q e1.
    truth_given frame (field_at store names (codes "m")) (number_from slots.Bool (slot_kinds frame) numbers at 2) (read slots.Bool (Path (names ++ codes "m" ∷ [])) (suc (suc at)) h.1.1.0) _ _ (λ m e2.
    let f : RTrigFields = r_trig_step (record { clk = clk; q = q; m = m }) in
    (with_numbers numbers at (field_numbers (r_trig_contents f)), fields_written frame store numbers contents names at (r_trig_contents f) h (slot (Path (names ++ codes "clk" ∷ [])) at h.0 (Plain (Truth clk)) e0, (slot (Path (names ++ codes "q" ∷ [])) (suc at) h.1.0 (Plain (Truth q)) e1, (slot (Path (names ++ codes "m" ∷ [])) (suc (suc at)) h.1.1.0 (Plain (Truth m)) e2, tt))), refl))))
  where
    read : (kind : SlotKind) (place : Location) (n : ℕ) → place_number frame place ≡ Some n → ReadsField kind (store place) (number_from kind (slot_kinds frame) numbers n 0)
    read kind place n e = field_read frame store numbers contents kind place n e

    slot : (place : Location) (n : ℕ) → place_number frame place ≡ Some n → (content : Content) → store place ≡ Some content → slice_get (slot_kinds frame) n ≡ Some (slot_kind_of content)
    slot place n e content found = field_slot frame store numbers contents place n e content found
block_follows frame Sr now store numbers contents names at h =
    truth_given frame (field_at store names (codes "s1")) (number_from slots.Bool (slot_kinds frame) numbers at 0) (read slots.Bool (Path (names ++ codes "s1" ∷ [])) at h.0) _ _ (λ s1 e0.
    truth_given frame (field_at store names (codes "r")) (number_from slots.Bool (slot_kinds frame) numbers at 1) (read slots.Bool (Path (names ++ codes "r" ∷ [])) (suc at) h.1.0) _ _ (λ r e1.
    truth_given frame (field_at store names (codes "q1")) (number_from slots.Bool (slot_kinds frame) numbers at 2) (read slots.Bool (Path (names ++ codes "q1" ∷ [])) (suc (suc at)) h.1.1.0) _ _ (λ q1 e2.
    let f : SrFields = sr_step (record { s1 = s1; r = r; q1 = q1 }) in
    (with_numbers numbers at (field_numbers (sr_contents f)), fields_written frame store numbers contents names at (sr_contents f) h (slot (Path (names ++ codes "s1" ∷ [])) at h.0 (Plain (Truth s1)) e0, (slot (Path (names ++ codes "r" ∷ [])) (suc at) h.1.0 (Plain (Truth r)) e1, (slot (Path (names ++ codes "q1" ∷ [])) (suc (suc at)) h.1.1.0 (Plain (Truth q1)) e2, tt))), refl))))
  where
    read : (kind : SlotKind) (place : Location) (n : ℕ) → place_number frame place ≡ Some n → ReadsField kind (store place) (number_from kind (slot_kinds frame) numbers n 0)
    read kind place n e = field_read frame store numbers contents kind place n e

    slot : (place : Location) (n : ℕ) → place_number frame place ≡ Some n → (content : Content) → store place ≡ Some content → slice_get (slot_kinds frame) n ≡ Some (slot_kind_of content)
    slot place n e content found = field_slot frame store numbers contents place n e content found
block_follows frame Rs now store numbers contents names at h =
    truth_given frame (field_at store names (codes "s")) (number_from slots.Bool (slot_kinds frame) numbers at 0) (read slots.Bool (Path (names ++ codes "s" ∷ [])) at h.0) _ _ (λ s e0.
    truth_given frame (field_at store names (codes "r1")) (number_from slots.Bool (slot_kinds frame) numbers at 1) (read slots.Bool (Path (names ++ codes "r1" ∷ [])) (suc at) h.1.0) _ _ (λ r1 e1.
    truth_given frame (field_at store names (codes "q1")) (number_from slots.Bool (slot_kinds frame) numbers at 2) (read slots.Bool (Path (names ++ codes "q1" ∷ [])) (suc (suc at)) h.1.1.0) _ _ (λ q1 e2.
    let f : RsFields = rs_step (record { s = s; r1 = r1; q1 = q1 }) in
    (with_numbers numbers at (field_numbers (rs_contents f)), fields_written frame store numbers contents names at (rs_contents f) h (slot (Path (names ++ codes "s" ∷ [])) at h.0 (Plain (Truth s)) e0, (slot (Path (names ++ codes "r1" ∷ [])) (suc at) h.1.0 (Plain (Truth r1)) e1, (slot (Path (names ++ codes "q1" ∷ [])) (suc (suc at)) h.1.1.0 (Plain (Truth q1)) e2, tt))), refl))))
  where
    read : (kind : SlotKind) (place : Location) (n : ℕ) → place_number frame place ≡ Some n → ReadsField kind (store place) (number_from kind (slot_kinds frame) numbers n 0)
    read kind place n e = field_read frame store numbers contents kind place n e

    slot : (place : Location) (n : ℕ) → place_number frame place ≡ Some n → (content : Content) → store place ≡ Some content → slice_get (slot_kinds frame) n ≡ Some (slot_kind_of content)
    slot place n e content found = field_slot frame store numbers contents place n e content found
block_follows frame Ctu now store numbers contents names at h =
    truth_given frame (field_at store names (codes "cu")) (number_from slots.Bool (slot_kinds frame) numbers at 0) (read slots.Bool (Path (names ++ codes "cu" ∷ [])) at h.0) _ _ (λ cu e0.
    truth_given frame (field_at store names (codes "r")) (number_from slots.Bool (slot_kinds frame) numbers at 1) (read slots.Bool (Path (names ++ codes "r" ∷ [])) (suc at) h.1.0) _ _ (λ r e1.
    dint_given frame (field_at store names (codes "pv")) (number_from slots.Dint (slot_kinds frame) numbers at 2) (read slots.Dint (Path (names ++ codes "pv" ∷ [])) (suc (suc at)) h.1.1.0) _ _ (λ pv e2.
    truth_given frame (field_at store names (codes "q")) (number_from slots.Bool (slot_kinds frame) numbers at 3) (read slots.Bool (Path (names ++ codes "q" ∷ [])) (suc (suc (suc at))) h.1.1.1.0) _ _ (λ q e3.
    dint_given frame (field_at store names (codes "cv")) (number_from slots.Dint (slot_kinds frame) numbers at 4) (read slots.Dint (Path (names ++ codes "cv" ∷ [])) (suc (suc (suc (suc at)))) h.1.1.1.1.0) _ _ (λ cv e4.
    truth_given frame (field_at store names (codes "m")) (number_from slots.Bool (slot_kinds frame) numbers at 5) (read slots.Bool (Path (names ++ codes "m" ∷ [])) (suc (suc (suc (suc (suc at))))) h.1.1.1.1.1.0) _ _ (λ m e5.
    let f : CtuFields = ctu_step (record { cu = cu; r = r; pv = pv; q = q; cv = cv; m = m }) in
    (with_numbers numbers at (field_numbers (ctu_contents f)), fields_written frame store numbers contents names at (ctu_contents f) h (slot (Path (names ++ codes "cu" ∷ [])) at h.0 (Plain (Truth cu)) e0, (slot (Path (names ++ codes "r" ∷ [])) (suc at) h.1.0 (Plain (Truth r)) e1, (slot (Path (names ++ codes "pv" ∷ [])) (suc (suc at)) h.1.1.0 (Plain (Dint pv)) e2, (slot (Path (names ++ codes "q" ∷ [])) (suc (suc (suc at))) h.1.1.1.0 (Plain (Truth q)) e3, (slot (Path (names ++ codes "cv" ∷ [])) (suc (suc (suc (suc at)))) h.1.1.1.1.0 (Plain (Dint cv)) e4, (slot (Path (names ++ codes "m" ∷ [])) (suc (suc (suc (suc (suc at))))) h.1.1.1.1.1.0 (Plain (Truth m)) e5, tt)))))), refl)))))))
  where
    read : (kind : SlotKind) (place : Location) (n : ℕ) → place_number frame place ≡ Some n → ReadsField kind (store place) (number_from kind (slot_kinds frame) numbers n 0)
    read kind place n e = field_read frame store numbers contents kind place n e

    slot : (place : Location) (n : ℕ) → place_number frame place ≡ Some n → (content : Content) → store place ≡ Some content → slice_get (slot_kinds frame) n ≡ Some (slot_kind_of content)
    slot place n e content found = field_slot frame store numbers contents place n e content found
block_follows frame Ton now store numbers contents names at h =
    truth_given frame (field_at store names (codes "in")) (number_from slots.Bool (slot_kinds frame) numbers at 0) (read slots.Bool (Path (names ++ codes "in" ∷ [])) at h.0) _ _ (λ input e0.
    time_given frame (field_at store names (codes "pt")) (number_from slots.Time (slot_kinds frame) numbers at 1) (read slots.Time (Path (names ++ codes "pt" ∷ [])) (suc at) h.1.0) _ _ (λ pt e1.
    truth_given frame (field_at store names (codes "q")) (number_from slots.Bool (slot_kinds frame) numbers at 2) (read slots.Bool (Path (names ++ codes "q" ∷ [])) (suc (suc at)) h.1.1.0) _ _ (λ q e2.
    time_given frame (field_at store names (codes "et")) (number_from slots.Time (slot_kinds frame) numbers at 3) (read slots.Time (Path (names ++ codes "et" ∷ [])) (suc (suc (suc at))) h.1.1.1.0) _ _ (λ et e3.
    truth_given frame (field_at store names (codes "run")) (number_from slots.Bool (slot_kinds frame) numbers at 4) (read slots.Bool (Path (names ++ codes "run" ∷ [])) (suc (suc (suc (suc at)))) h.1.1.1.1.0) _ _ (λ run e4.
    moment_given frame (field_at store names (codes "start")) (number_from slots.Moment (slot_kinds frame) numbers at 5) (read slots.Moment (Path (names ++ codes "start" ∷ [])) (suc (suc (suc (suc (suc at))))) h.1.1.1.1.1.0) _ _ (λ start e5.
    let f : TonFields = ton_step now (record { input = input; pt = pt; q = q; et = et; run = run; start = start }) in
    (with_numbers numbers at (field_numbers (ton_contents f)), fields_written frame store numbers contents names at (ton_contents f) h (slot (Path (names ++ codes "in" ∷ [])) at h.0 (Plain (Truth input)) e0, (slot (Path (names ++ codes "pt" ∷ [])) (suc at) h.1.0 (Plain (Time pt)) e1, (slot (Path (names ++ codes "q" ∷ [])) (suc (suc at)) h.1.1.0 (Plain (Truth q)) e2, (slot (Path (names ++ codes "et" ∷ [])) (suc (suc (suc at))) h.1.1.1.0 (Plain (Time et)) e3, (slot (Path (names ++ codes "run" ∷ [])) (suc (suc (suc (suc at)))) h.1.1.1.1.0 (Plain (Truth run)) e4, (slot (Path (names ++ codes "start" ∷ [])) (suc (suc (suc (suc (suc at))))) h.1.1.1.1.1.0 (Moment start) e5, tt)))))), refl)))))))
  where
    read : (kind : SlotKind) (place : Location) (n : ℕ) → place_number frame place ≡ Some n → ReadsField kind (store place) (number_from kind (slot_kinds frame) numbers n 0)
    read kind place n e = field_read frame store numbers contents kind place n e

    slot : (place : Location) (n : ℕ) → place_number frame place ≡ Some n → (content : Content) → store place ≡ Some content → slice_get (slot_kinds frame) n ≡ Some (slot_kind_of content)
    slot place n e content found = field_slot frame store numbers contents place n e content found
block_follows frame Tof now store numbers contents names at h =
    truth_given frame (field_at store names (codes "in")) (number_from slots.Bool (slot_kinds frame) numbers at 0) (read slots.Bool (Path (names ++ codes "in" ∷ [])) at h.0) _ _ (λ input e0.
    time_given frame (field_at store names (codes "pt")) (number_from slots.Time (slot_kinds frame) numbers at 1) (read slots.Time (Path (names ++ codes "pt" ∷ [])) (suc at) h.1.0) _ _ (λ pt e1.
    truth_given frame (field_at store names (codes "q")) (number_from slots.Bool (slot_kinds frame) numbers at 2) (read slots.Bool (Path (names ++ codes "q" ∷ [])) (suc (suc at)) h.1.1.0) _ _ (λ q e2.
    time_given frame (field_at store names (codes "et")) (number_from slots.Time (slot_kinds frame) numbers at 3) (read slots.Time (Path (names ++ codes "et" ∷ [])) (suc (suc (suc at))) h.1.1.1.0) _ _ (λ et e3.
    phase_given frame (field_at store names (codes "phase")) (number_from slots.Phase (slot_kinds frame) numbers at 4) (read slots.Phase (Path (names ++ codes "phase" ∷ [])) (suc (suc (suc (suc at)))) h.1.1.1.1.0) _ _ (λ phase e4.
    moment_given frame (field_at store names (codes "start")) (number_from slots.Moment (slot_kinds frame) numbers at 5) (read slots.Moment (Path (names ++ codes "start" ∷ [])) (suc (suc (suc (suc (suc at))))) h.1.1.1.1.1.0) _ _ (λ start e5.
    let f : TofFields = tof_step now (record { input = input; pt = pt; q = q; et = et; phase = phase; start = start }) in
    (with_numbers numbers at (field_numbers (tof_contents f)), fields_written frame store numbers contents names at (tof_contents f) h (slot (Path (names ++ codes "in" ∷ [])) at h.0 (Plain (Truth input)) e0, (slot (Path (names ++ codes "pt" ∷ [])) (suc at) h.1.0 (Plain (Time pt)) e1, (slot (Path (names ++ codes "q" ∷ [])) (suc (suc at)) h.1.1.0 (Plain (Truth q)) e2, (slot (Path (names ++ codes "et" ∷ [])) (suc (suc (suc at))) h.1.1.1.0 (Plain (Time et)) e3, (slot (Path (names ++ codes "phase" ∷ [])) (suc (suc (suc (suc at)))) h.1.1.1.1.0 (Phase phase) e4, (slot (Path (names ++ codes "start" ∷ [])) (suc (suc (suc (suc (suc at))))) h.1.1.1.1.1.0 (Moment start) e5, tt)))))), refl)))))))
  where
    read : (kind : SlotKind) (place : Location) (n : ℕ) → place_number frame place ≡ Some n → ReadsField kind (store place) (number_from kind (slot_kinds frame) numbers n 0)
    read kind place n e = field_read frame store numbers contents kind place n e

    slot : (place : Location) (n : ℕ) → place_number frame place ≡ Some n → (content : Content) → store place ≡ Some content → slice_get (slot_kinds frame) n ≡ Some (slot_kind_of content)
    slot place n e content found = field_slot frame store numbers contents place n e content found
block_follows frame Tp now store numbers contents names at h =
    truth_given frame (field_at store names (codes "in")) (number_from slots.Bool (slot_kinds frame) numbers at 0) (read slots.Bool (Path (names ++ codes "in" ∷ [])) at h.0) _ _ (λ input e0.
    time_given frame (field_at store names (codes "pt")) (number_from slots.Time (slot_kinds frame) numbers at 1) (read slots.Time (Path (names ++ codes "pt" ∷ [])) (suc at) h.1.0) _ _ (λ pt e1.
    truth_given frame (field_at store names (codes "q")) (number_from slots.Bool (slot_kinds frame) numbers at 2) (read slots.Bool (Path (names ++ codes "q" ∷ [])) (suc (suc at)) h.1.1.0) _ _ (λ q e2.
    time_given frame (field_at store names (codes "et")) (number_from slots.Time (slot_kinds frame) numbers at 3) (read slots.Time (Path (names ++ codes "et" ∷ [])) (suc (suc (suc at))) h.1.1.1.0) _ _ (λ et e3.
    phase_given frame (field_at store names (codes "phase")) (number_from slots.Phase (slot_kinds frame) numbers at 4) (read slots.Phase (Path (names ++ codes "phase" ∷ [])) (suc (suc (suc (suc at)))) h.1.1.1.1.0) _ _ (λ phase e4.
    moment_given frame (field_at store names (codes "start")) (number_from slots.Moment (slot_kinds frame) numbers at 5) (read slots.Moment (Path (names ++ codes "start" ∷ [])) (suc (suc (suc (suc (suc at))))) h.1.1.1.1.1.0) _ _ (λ start e5.
    let f : TpFields = tp_step now (record { input = input; pt = pt; q = q; et = et; phase = phase; start = start }) in
    (with_numbers numbers at (field_numbers (tp_contents f)), fields_written frame store numbers contents names at (tp_contents f) h (slot (Path (names ++ codes "in" ∷ [])) at h.0 (Plain (Truth input)) e0, (slot (Path (names ++ codes "pt" ∷ [])) (suc at) h.1.0 (Plain (Time pt)) e1, (slot (Path (names ++ codes "q" ∷ [])) (suc (suc at)) h.1.1.0 (Plain (Truth q)) e2, (slot (Path (names ++ codes "et" ∷ [])) (suc (suc (suc at))) h.1.1.1.0 (Plain (Time et)) e3, (slot (Path (names ++ codes "phase" ∷ [])) (suc (suc (suc (suc at)))) h.1.1.1.1.0 (Phase phase) e4, (slot (Path (names ++ codes "start" ∷ [])) (suc (suc (suc (suc (suc at))))) h.1.1.1.1.1.0 (Moment start) e5, tt)))))), refl)))))))
  where
    read : (kind : SlotKind) (place : Location) (n : ℕ) → place_number frame place ≡ Some n → ReadsField kind (store place) (number_from kind (slot_kinds frame) numbers n 0)
    read kind place n e = field_read frame store numbers contents kind place n e

    slot : (place : Location) (n : ℕ) → place_number frame place ≡ Some n → (content : Content) → store place ≡ Some content → slice_get (slot_kinds frame) n ≡ Some (slot_kind_of content)
    slot place n e content found = field_slot frame store numbers contents place n e content found

-- a field of an instance, by where it is in its block
pub field_place : (frame : List (Location × Content)) (scope : Scope) (names : List Name) (base : ℕ) → IsBased frame scope names base → (instance : Name) (v : Variable) → variable_named scope.unit instance ≡ Some v → (at : ℕ) → first_place scope instance ≡ Some at → (field : Name) (i n : ℕ) → path_from 0 (places_of scope.before v) (field ∷ []) ≡ Some i → base + at + i ≡ n → place_number frame (Path ((names ++ instance ∷ []) ++ field ∷ [])) ≡ Some n
field_place frame scope names base based instance v found at first field i n e sum =
    ap (λ (path : List Name). place_number frame (Path path)) (append_assoc names (instance ∷ []) (field ∷ []))
    ∙ (based (Path (instance ∷ field ∷ [])) (at + i) (instance_number scope instance v found at first (field ∷ []) i e)
    ∙ ap Some (let a : base + (at + i) ≡ n = omega (arith, sum) in a))

-- the fields of an instance of a standard block
pub fields_at : (frame : List (Location × Content)) (scope : Scope) (names : List Name) (base : ℕ) → IsBased frame scope names base → (instance : Name) (v : Variable) → variable_named scope.unit instance ≡ Some v → (block : StandardBlock) → type_named scope.before v.type_name ≡ Some (Standard block) → (at : ℕ) → first_place scope instance ≡ Some at → FieldsAt frame (names ++ instance ∷ []) (base + at) (standard_fields block)
fields_at frame scope names base based instance v found block typed at first = each block (ap (λ (t : Option VariableType). variable_places (block_places scope.before) t v.initial) typed)
  where
    field : (b : StandardBlock) → places_of scope.before v ≡ map (λ f. (f.0 ∷ [], f.1)) (standard_fields b) → (name : Name) (i n : ℕ) → path_from 0 (map (λ f. (f.0 ∷ [], f.1)) (standard_fields b)) (name ∷ []) ≡ Some i → base + at + i ≡ n → place_number frame (Path ((names ++ instance ∷ []) ++ name ∷ [])) ≡ Some n
    field b places name i n e sum = field_place frame scope names base based instance v found at first name i n (ap (λ (ps : List (List Name × Content)). path_from 0 ps (name ∷ [])) places ∙ e) sum

    each : (b : StandardBlock) → places_of scope.before v ≡ map (λ f. (f.0 ∷ [], f.1)) (standard_fields b) → FieldsAt frame (names ++ instance ∷ []) (base + at) (standard_fields b)
    each RTrig p = (field RTrig p (codes "clk") 0 (base + at) refl (omega arith), (field RTrig p (codes "q") 1 (suc (base + at)) refl (omega arith), (field RTrig p (codes "m") 2 (suc (suc (base + at))) refl (omega arith), tt)))
    each Sr p = (field Sr p (codes "s1") 0 (base + at) refl (omega arith), (field Sr p (codes "r") 1 (suc (base + at)) refl (omega arith), (field Sr p (codes "q1") 2 (suc (suc (base + at))) refl (omega arith), tt)))
    each Rs p = (field Rs p (codes "s") 0 (base + at) refl (omega arith), (field Rs p (codes "r1") 1 (suc (base + at)) refl (omega arith), (field Rs p (codes "q1") 2 (suc (suc (base + at))) refl (omega arith), tt)))
    each Ctu p = (field Ctu p (codes "cu") 0 (base + at) refl (omega arith), (field Ctu p (codes "r") 1 (suc (base + at)) refl (omega arith), (field Ctu p (codes "pv") 2 (suc (suc (base + at))) refl (omega arith), (field Ctu p (codes "q") 3 (suc (suc (suc (base + at)))) refl (omega arith), (field Ctu p (codes "cv") 4 (suc (suc (suc (suc (base + at))))) refl (omega arith), (field Ctu p (codes "m") 5 (suc (suc (suc (suc (suc (base + at)))))) refl (omega arith), tt))))))
    each Ton p = (field Ton p (codes "in") 0 (base + at) refl (omega arith), (field Ton p (codes "pt") 1 (suc (base + at)) refl (omega arith), (field Ton p (codes "q") 2 (suc (suc (base + at))) refl (omega arith), (field Ton p (codes "et") 3 (suc (suc (suc (base + at)))) refl (omega arith), (field Ton p (codes "run") 4 (suc (suc (suc (suc (base + at))))) refl (omega arith), (field Ton p (codes "start") 5 (suc (suc (suc (suc (suc (base + at)))))) refl (omega arith), tt))))))
    each Tof p = (field Tof p (codes "in") 0 (base + at) refl (omega arith), (field Tof p (codes "pt") 1 (suc (base + at)) refl (omega arith), (field Tof p (codes "q") 2 (suc (suc (base + at))) refl (omega arith), (field Tof p (codes "et") 3 (suc (suc (suc (base + at)))) refl (omega arith), (field Tof p (codes "phase") 4 (suc (suc (suc (suc (base + at))))) refl (omega arith), (field Tof p (codes "start") 5 (suc (suc (suc (suc (suc (base + at)))))) refl (omega arith), tt))))))
    each Tp p = (field Tp p (codes "in") 0 (base + at) refl (omega arith), (field Tp p (codes "pt") 1 (suc (base + at)) refl (omega arith), (field Tp p (codes "q") 2 (suc (suc (base + at))) refl (omega arith), (field Tp p (codes "et") 3 (suc (suc (suc (base + at)))) refl (omega arith), (field Tp p (codes "phase") 4 (suc (suc (suc (suc (base + at))))) refl (omega arith), (field Tp p (codes "start") 5 (suc (suc (suc (suc (suc (base + at)))))) refl (omega arith), tt))))))
