-- Where a place that keeps its value is in an old unit's frame, variable by variable.
use Rattle.wc_model.proofs.Common.{◌≡◌, ℕ, zero, suc, ◌+◌, ◌-◌, ◌<◌, Bool, true, false, cond, ◌||◌, List, [], ◌∷◌, map, length, Option, Some, None, option_map, refl, sym, ap, ◌∙◌, arith, if◌then◌else◌, slice_get, slice_get_within, slice_get-map, list_any, position_from}
use Rattle.wc_model.specs.Definitions.{Lead, ToPlace, ToField, field_lead, lead_by, lead_from, plain_lead, same_block, same_lead, Variable, VariableType, Elementary, Standard, same_name, type_named, variable_named, Name, Content, block_places, same_path, standard_fields, unit_places, variable_places, ProgramUnit}
use Rattle.wc_model.specs.declared.block.StandardBlock.{StandardBlock}
use Rattle.wc_model.specs.declared.block.StandardBlock.TheVariants.{RTrig, Sr, Rs, Ctu, Ton, Tof, Tp}
use Rattle.wc_model.specs.declared.kind.Kind.{Kind}
use Rattle.wc_model.specs.declared.source.Initial.{Initial}
use Rattle.wc_names.specs.{HasPlace, field_within, kept_from, plain_within, same_name_laws, AreDifferent, Represents, first_place, row_named, type_at}
use Rattle.wc_names.specs.declared.declared_type.DeclaredType.{DeclaredType}
use Rattle.wc_names.specs.declared.declared_type.DeclaredType.TheVariants as numbered
use Rattle.wc_names.specs.declared.unit_table.UnitTable.{UnitTable}
use Rattle.wc_names.specs.declared.variable.Variable.{Variable as Row}
use Rattle.wc_names.proofs.Frames.{own_places}
use Rattle.wc_names.proofs.Lookups.{field_of_one, from_row, has_capacity, place_from}
use Rattle.wc_names.proofs.Places.{TypeCase, found_block, of_block, of_elementary, of_standard, holds_further, units_length}
use Rattle.wc_names.proofs.Positions.{position_on}
use Rattle.wc_names.proofs.VariablePlaces.{other_name}
use Rattle.wc_laws_language.proofs.Carrying.{at_once, is_field, one_block}

-- where a place of a variable of one type is among those of a variable of another, if it keeps its value
abbrev pub kept_within : List ProgramUnit → Option VariableType → List ProgramUnit → Option VariableType → Option Initial → List Name → Option ℕ
kept_within before type old_before old_type initial ns =
    if same_lead (lead_by (lead_from ns) old_before old_type ns) (lead_by (lead_from ns) before type ns) then position_from (λ e. same_path e.0 ns) 0 (variable_places (block_places old_before) old_type initial) else None

-- after the first place of the old variable
pub kept_in : (before : List ProgramUnit) (u : ProgramUnit) (old_before : List ProgramUnit) (old : ProgramUnit) (name : Name) (ns : List Name) (v w : Variable) (first : ℕ) → variable_named u name ≡ Some v → variable_named old name ≡ Some w →
    place_from old_before old (name ∷ ns) ≡ option_map (λ n. first + n) (position_from (λ e. same_path e.0 ns) 0 (own_places old_before w)) →
    kept_from before u old_before old (name ∷ ns) ≡ option_map (λ n. first + n) (kept_within before (type_named before v.type_name) old_before (type_named old_before w.type_name) w.initial ns)
kept_in before u old_before old name ns v w first named old_named at =
    let lead : List ProgramUnit → Option Variable → Option Lead = λ us o. elim o as (λ x. Option Lead) [ Some x ↦ lead_by (lead_from ns) us (type_named us x.type_name) ns | None ↦ None ] in
    ap (λ o. if same_lead (lead old_before (variable_named old name)) (lead before o) then place_from old_before old (name ∷ ns) else None) named
    ∙ ap (λ o. if same_lead (lead old_before o) (lead before (Some v)) then place_from old_before old (name ∷ ns) else None) old_named
    ∙ by (same_lead (lead old_before (Some w)) (lead before (Some v)))
  where
    by : (b : Bool) → (if b then place_from old_before old (name ∷ ns) else None) ≡ option_map (λ n. first + n) (if b then position_from (λ e. same_path e.0 ns) 0 (own_places old_before w) else None)
    by true = at
    by false = refl

-- nowhere, if the old unit has no variable of the name
pub kept_nowhere : (before : List ProgramUnit) (u : ProgramUnit) (old_before : List ProgramUnit) (old : ProgramUnit) (names : List Name) → place_from old_before old names ≡ None → None ≡ kept_from before u old_before old names
kept_nowhere before u old_before old names at = by (same_lead (lead_from names old_before old) (lead_from names before u))
  where
    by : (b : Bool) → None ≡ (if b then place_from old_before old names else None)
    by true = sym at
    by false = refl

-- what leads to no field is not a field
not_field : (lead : Option Lead) (block : StandardBlock) → ((b : StandardBlock) → lead ≡ Some (ToField b) → ⊥) → (same_lead lead (Some (ToField block)) ≡ false) × (same_lead (Some (ToField block)) lead ≡ false)
not_field None block never = (refl, refl)
not_field (Some (ToPlace kind)) block never = (refl, refl)
not_field (Some (ToField b)) block never = absurd (never b refl)

-- straight from a block of the text no field is led to
never_field : (field : Name) (before : List ProgramUnit) (unit : ProgramUnit) (block : StandardBlock) → lead_from (field ∷ []) before unit ≡ Some (ToField block) → ⊥
never_field field before unit block e = at_once before (variable_named unit field) block e

-- a plain variable
plain_names : (kind : Kind) (initial : Option Initial) (places : Name → List (List Name × Content)) (m : ℕ) (inner : List Name × Content) → slice_get (variable_places places (Some (Elementary kind)) initial) m ≡ Some inner → [] ≡ inner.0
plain_names kind initial places zero inner e = let same : ([], Rattle.wc_model.specs.Language.Store.first_content kind initial) ≡ inner = cc in ap (λ (p : List Name × Content). p.0) same
plain_names kind initial places (suc zero) inner e = cc
plain_names kind initial places (suc (suc m)) inner e = cc

pub plain_kept : (before : List ProgramUnit) (type : Option VariableType) (initial : Option Initial) (kind : Kind) (m : ℕ) (inner : List Name × Content) (old_before : List ProgramUnit) (old_type : Option VariableType) (declared : DeclaredType) (old_initial : Option Initial) →
    TypeCase before type (numbered.Elementary kind) → slice_get (variable_places (block_places before) type initial) m ≡ Some inner → TypeCase old_before old_type declared → plain_within kind declared ≡ kept_within before type old_before old_type old_initial inner.0
plain_kept before type initial kind m inner old_before old_type declared old_initial (of_standard b t d) there old = cc
plain_kept before type initial kind m inner old_before old_type declared old_initial (of_block n u us t f d) there old = cc
plain_kept before type initial kind m inner old_before old_type declared old_initial (of_elementary k t d) there old =
    let same : kind ≡ k = cc in
    let names = plain_names k initial (block_places before) m inner (ap (λ x. slice_get (variable_places (block_places before) x initial) m) (sym t) ∙ there) in
    ap (λ x. plain_within x declared) same ∙ by old ∙ ap (λ ns. kept_within before (Some (Elementary k)) old_before old_type old_initial ns) names ∙ ap (λ x. kept_within before x old_before old_type old_initial inner.0) (sym t)
  where
    by : TypeCase old_before old_type declared → plain_within k declared ≡ kept_within before (Some (Elementary k)) old_before old_type old_initial []
    by (of_elementary j s e) = ap (plain_within k) e ∙ ap (λ x. kept_within before (Some (Elementary k)) old_before x old_initial []) (sym s)
    by (of_standard b s e) = ap (plain_within k) e ∙ ap (λ x. kept_within before (Some (Elementary k)) old_before x old_initial []) (sym s)
    by (of_block n u us s f e) =
        ap (plain_within k) e
        ∙ ap (λ (o : Option (ProgramUnit × List ProgramUnit)). if same_lead (elim o as (λ x. Option Lead) [ Some found ↦ lead_from [] found.1 found.0 | None ↦ None ]) (Some (ToPlace k)) then position_from (λ e. same_path e.0 []) 0 (block_places old_before n) else None) (sym f)
        ∙ ap (λ x. kept_within before (Some (Elementary k)) old_before x old_initial []) (sym s)

-- the fields of a standard block have different names
pub fields_differ : (block : StandardBlock) → AreDifferent (map (λ f. f.0) (standard_fields block))
fields_differ RTrig = (refl, (refl, (refl, tt)))
fields_differ Sr = (refl, (refl, (refl, tt)))
fields_differ Rs = (refl, (refl, (refl, tt)))
fields_differ Ctu = (refl, (refl, (refl, (refl, (refl, (refl, tt))))))
fields_differ Ton = (refl, (refl, (refl, (refl, (refl, (refl, tt))))))
fields_differ Tof = (refl, (refl, (refl, (refl, (refl, (refl, tt))))))
fields_differ Tp = (refl, (refl, (refl, (refl, (refl, (refl, tt))))))

-- so each is found at its own number
pub own_number : (fields : List (Name × Content)) (m : ℕ) (field : Name × Content) → AreDifferent (map (λ f. f.0) fields) → slice_get fields m ≡ Some field → position_from (λ f. same_name f.0 field.0) 0 fields ≡ Some m
own_number [] zero field different there = cc
own_number [] (suc m) field different there = cc
own_number (f ∷ fields) zero field different there =
    let same : f ≡ field = cc in
    ap (λ b. cond b (Some 0) (position_from (λ g. same_name g.0 field.0) 1 fields)) (ap (λ (g : Name × Content). same_name g.0 field.0) same ∙ same_name_laws.refl field.0)
own_number (f ∷ fields) (suc m) field different there =
    ap (λ b. cond b (Some 0) (position_from (λ g. same_name g.0 field.0) 1 fields)) (other_name (map (λ g. g.0) fields) f.0 field.0 m different.0 (slice_get-map (λ g. g.0) fields m ∙ ap (option_map (λ g. g.0)) there))
    ∙ position_on (λ g. same_name g.0 field.0) 1 fields
    ∙ ap (option_map (λ n. 1 + n)) (own_number fields m field different.1 there)
    ∙ ap Some (let e : 1 + m ≡ suc m = omega arith in e)

field_shown : (fields : List (Name × Content)) (m : ℕ) (field : Name × Content) → slice_get fields m ≡ Some field → list_any (λ f. same_name f.0 field.0) fields ≡ true
field_shown [] zero field there = cc
field_shown [] (suc m) field there = cc
field_shown (f ∷ fields) zero field there = let same : f ≡ field = cc in ap (λ b. b || list_any (λ g. same_name g.0 field.0) fields) (ap (λ (g : Name × Content). same_name g.0 field.0) same ∙ same_name_laws.refl field.0)
field_shown (f ∷ fields) (suc m) field there = ap (λ b. same_name f.0 field.0 || b) (field_shown fields m field there) ∙ either (same_name f.0 field.0)
  where
    either : (b : Bool) → (b || true) ≡ true
    either true = refl
    either false = refl

-- a field of a standard block, by its number
pub record FieldOf (block : StandardBlock) (m : ℕ) (ns : List Name) : Type 0 where
  pub field : Name × Content
  pub there : slice_get (standard_fields block) m ≡ Some field
  pub names : field.0 ∷ [] ≡ ns

pub field_of : (block : StandardBlock) (m : ℕ) (inner : List Name × Content) → slice_get (map (λ f. (f.0 ∷ [], f.1)) (standard_fields block)) m ≡ Some inner → FieldOf block m inner.0
field_of block m inner e = by (slice_get (standard_fields block) m) refl (sym (slice_get-map (λ f. (f.0 ∷ [], f.1)) (standard_fields block) m) ∙ e)
  where
    by : (o : Option (Name × Content)) → slice_get (standard_fields block) m ≡ o → option_map (λ (f : Name × Content). (f.0 ∷ [], f.1)) o ≡ Some inner → FieldOf block m inner.0
    by None there e = absurd (cc)
    by (Some f) there e = let same : (f.0 ∷ [], f.1) ≡ inner = cc in record { field = f; there = there; names = ap (λ (p : List Name × Content). p.0) same }

-- where it is in another standard block
field_in : (block b : StandardBlock) (m : ℕ) (field : Name × Content) → slice_get (standard_fields block) m ≡ Some field →
    (if same_block b block then Some m else None) ≡ (if same_lead (field_lead b (field.0 ∷ [])) (field_lead block (field.0 ∷ [])) then position_from (λ (e : List Name × Content). same_path e.0 (field.0 ∷ [])) 0 (map (λ f. (f.0 ∷ [], f.1)) (standard_fields b)) else None)
field_in block b m field there =
    by (same_block b block) refl
    ∙ ap (λ x. if same_lead (field_lead b (field.0 ∷ [])) (if x then Some (ToField block) else None) then position_from (λ (e : List Name × Content). same_path e.0 (field.0 ∷ [])) 0 (map (λ f. (f.0 ∷ [], f.1)) (standard_fields b)) else None) (sym (field_shown (standard_fields block) m field there))
  where
    other : (x : Bool) → same_block b block ≡ false → None ≡ (if same_lead (if x then Some (ToField b) else None) (Some (ToField block)) then position_from (λ (e : List Name × Content). same_path e.0 (field.0 ∷ [])) 0 (map (λ f. (f.0 ∷ [], f.1)) (standard_fields b)) else None)
    other true is = ap (λ x. if x then position_from (λ (e : List Name × Content). same_path e.0 (field.0 ∷ [])) 0 (map (λ f. (f.0 ∷ [], f.1)) (standard_fields b)) else None) (sym is)
    other false is = refl

    by : (s : Bool) → same_block b block ≡ s → (if s then Some m else None) ≡ (if same_lead (field_lead b (field.0 ∷ [])) (Some (ToField block)) then position_from (λ (e : List Name × Content). same_path e.0 (field.0 ∷ [])) 0 (map (λ f. (f.0 ∷ [], f.1)) (standard_fields b)) else None)
    by false is = other (is_field b field.0) is
    by true is =
        let same = one_block b block is in
        let here : slice_get (standard_fields b) m ≡ Some field = ap (λ x. slice_get (standard_fields x) m) same ∙ there in
        sym (own_number (standard_fields b) m field (fields_differ b) here) ∙ field_of_one (standard_fields b) field.0
        ∙ ap (λ x. if x then position_from (λ (e : List Name × Content). same_path e.0 (field.0 ∷ [])) 0 (map (λ f. (f.0 ∷ [], f.1)) (standard_fields b)) else None) (sym is)
        ∙ ap (λ x. if same_lead (if x then Some (ToField b) else None) (Some (ToField block)) then position_from (λ (e : List Name × Content). same_path e.0 (field.0 ∷ [])) 0 (map (λ f. (f.0 ∷ [], f.1)) (standard_fields b)) else None) (sym (field_shown (standard_fields b) m field here))

-- a field of a standard block
pub field_kept : (before : List ProgramUnit) (type : Option VariableType) (initial : Option Initial) (block : StandardBlock) (m : ℕ) (inner : List Name × Content) (old_before : List ProgramUnit) (old_type : Option VariableType) (declared : DeclaredType) (old_initial : Option Initial) →
    TypeCase before type (numbered.Standard block) → slice_get (variable_places (block_places before) type initial) m ≡ Some inner → TypeCase old_before old_type declared → field_within block m declared ≡ kept_within before type old_before old_type old_initial inner.0
field_kept before type initial block m inner old_before old_type declared old_initial (of_elementary k t d) there old = cc
field_kept before type initial block m inner old_before old_type declared old_initial (of_block n u us t f d) there old = cc
field_kept before type initial block m inner old_before old_type declared old_initial (of_standard k t d) there old =
    let same : block ≡ k = cc in
    let at = field_of k m inner (ap (λ x. slice_get (variable_places (block_places before) x initial) m) (sym t) ∙ there) in
    ap (λ x. field_within x m declared) same ∙ by at.field at.there old ∙ ap (λ ns. kept_within before (Some (Standard k)) old_before old_type old_initial ns) at.names ∙ ap (λ x. kept_within before x old_before old_type old_initial inner.0) (sym t)
  where
    by : (field : Name × Content) → slice_get (standard_fields k) m ≡ Some field → TypeCase old_before old_type declared → field_within k m declared ≡ kept_within before (Some (Standard k)) old_before old_type old_initial (field.0 ∷ [])
    by field is (of_elementary j s e) = ap (field_within k m) e ∙ ap (λ x. kept_within before (Some (Standard k)) old_before x old_initial (field.0 ∷ [])) (sym s)
    by field is (of_standard b s e) = ap (field_within k m) e ∙ field_in k b m field is ∙ ap (λ x. kept_within before (Some (Standard k)) old_before x old_initial (field.0 ∷ [])) (sym s)
    by field is (of_block n u us s f e) =
        let place = position_from (λ e. same_path e.0 (field.0 ∷ [])) 0 (block_places old_before n) in
        ap (field_within k m) e
        ∙ ap (λ b. if b then place else None) (sym (not_field (lead_from (field.0 ∷ []) us u) k (λ b. never_field field.0 us u b)).0)
        ∙ ap (λ b. if same_lead (lead_from (field.0 ∷ []) us u) (if b then Some (ToField k) else None) then place else None) (sym (field_shown (standard_fields k) m field is))
        ∙ ap (λ (o : Option (ProgramUnit × List ProgramUnit)). if same_lead (elim o as (λ x. Option Lead) [ Some found ↦ lead_from (field.0 ∷ []) found.1 found.0 | None ↦ None ]) (field_lead k (field.0 ∷ [])) then place else None) (sym f)
        ∙ ap (λ x. kept_within before (Some (Standard k)) old_before x old_initial (field.0 ∷ [])) (sym s)

-- an instance of a block of the text: its unit, and what names lead to from there
pub record InBlock (units : List UnitTable) (before : List ProgramUnit) (type : Option VariableType) (initial : Option Initial) (number : ℕ) : Type 0 where
  pub unit : ProgramUnit
  pub earlier : List ProgramUnit
  pub represents : Represents units earlier unit
  pub counted : number ≡ length earlier
  pub below : number < length before
  pub first : first_place unit ≡ 0
  pub places : variable_places (block_places before) type initial ≡ unit_places earlier unit
  pub lead : (ns : List Name) → lead_by (lead_from ns) before type ns ≡ lead_from ns earlier unit

pub in_block : (units : List UnitTable) (before : List ProgramUnit) (u : ProgramUnit) → Represents units before u → (type : Option VariableType) (initial : Option Initial) (number : ℕ) → TypeCase before type (numbered.Block number) → InBlock units before type initial number
in_block units before u h type initial number (of_elementary k t d) = absurd (cc)
in_block units before u h type initial number (of_standard b t d) = absurd (cc)
in_block units before u h type initial number (of_block n unit us t f d) =
    let found = found_block before h.others n unit us h.earlier f in
    let count : number ≡ length us = cc in
    record {
      unit = unit;
      earlier = us;
      represents = holds_further h.others units us unit h.prefix found.represents;
      counted = count;
      below =
          let l = slice_get_within h.others (length us) found.represents.table found.represents.there in
          let m = units_length before h.others h.earlier in
          omega (arith, l, m, count);
      first = rw found.block refl;
      places = ap (λ x. variable_places (block_places before) x initial) t ∙ found.places;
      lead = λ ns. ap (λ x. lead_by (lead_from ns) before x ns) t ∙ ap (λ (o : Option (ProgramUnit × List ProgramUnit)). elim o as (λ x. Option Lead) [ Some p ↦ lead_from ns p.1 p.0 | None ↦ None ]) f;
    }

-- between two of them
pub block_kept : (units old_units : List UnitTable) (before old_before : List ProgramUnit) (type old_type : Option VariableType) (initial old_initial : Option Initial) (number old_number : ℕ) (b : InBlock units before type initial number) (o : InBlock old_units old_before old_type old_initial old_number) (ns : List Name) →
    kept_from b.earlier b.unit o.earlier o.unit ns ≡ kept_within before type old_before old_type old_initial ns
block_kept units old_units before old_before type old_type initial old_initial number old_number b o ns =
    ap (λ n. if same_lead (lead_from ns o.earlier o.unit) (lead_from ns b.earlier b.unit) then position_from (λ e. same_path e.0 ns) n (unit_places o.earlier o.unit) else None) o.first
    ∙ ap (λ l. if same_lead l (lead_from ns b.earlier b.unit) then position_from (λ e. same_path e.0 ns) 0 (unit_places o.earlier o.unit) else None) (sym (o.lead ns))
    ∙ ap (λ l. if same_lead (lead_by (lead_from ns) old_before old_type ns) l then position_from (λ e. same_path e.0 ns) 0 (unit_places o.earlier o.unit) else None) (sym (b.lead ns))
    ∙ ap (λ places. if same_lead (lead_by (lead_from ns) old_before old_type ns) (lead_by (lead_from ns) before type ns) then position_from (λ e. same_path e.0 ns) 0 places else None) (sym o.places)

-- and in what is not a block of the old text
pub unlike_block : (units : List UnitTable) (before old_before : List ProgramUnit) (type old_type : Option VariableType) (initial old_initial : Option Initial) (number : ℕ) (declared : DeclaredType) (b : InBlock units before type initial number) → TypeCase old_before old_type declared → ((n : ℕ) → declared ≡ numbered.Block n → ⊥) → (ns : List Name) → None ≡ kept_within before type old_before old_type old_initial ns
unlike_block units before old_before type old_type initial old_initial number declared b old no_block ns =
    by old ns ∙ ap (λ l. if same_lead (lead_by (lead_from ns) old_before old_type ns) l then position_from (λ e. same_path e.0 ns) 0 (variable_places (block_places old_before) old_type old_initial) else None) (sym (b.lead ns))
  where
    in_standard : (s : StandardBlock) (ns : List Name) → same_lead (field_lead s ns) (lead_from ns b.earlier b.unit) ≡ false
    in_standard s [] = refl
    in_standard s (field ∷ []) = either (is_field s field)
      where
        either : (x : Bool) → same_lead (if x then Some (ToField s) else None) (lead_from (field ∷ []) b.earlier b.unit) ≡ false
        either true = (not_field (lead_from (field ∷ []) b.earlier b.unit) s (λ t. never_field field b.earlier b.unit t)).1
        either false = refl
    in_standard s (field ∷ next ∷ ns) = refl

    in_plain : (k : Kind) (ns : List Name) → same_lead (plain_lead k ns) (lead_from ns b.earlier b.unit) ≡ false
    in_plain k [] = refl
    in_plain k (name ∷ ns) = refl

    by : TypeCase old_before old_type declared → (ns : List Name) → None ≡ (if same_lead (lead_by (lead_from ns) old_before old_type ns) (lead_from ns b.earlier b.unit) then position_from (λ e. same_path e.0 ns) 0 (variable_places (block_places old_before) old_type old_initial) else None)
    by (of_elementary k t d) ns =
        let place = position_from (λ e. same_path e.0 ns) 0 (variable_places (block_places old_before) (Some (Elementary k)) old_initial) in
        ap (λ x. if x then place else None) (sym (in_plain k ns))
        ∙ ap (λ x. if same_lead (lead_by (lead_from ns) old_before x ns) (lead_from ns b.earlier b.unit) then position_from (λ e. same_path e.0 ns) 0 (variable_places (block_places old_before) x old_initial) else None) (sym t)
    by (of_standard s t d) ns =
        let place = position_from (λ e. same_path e.0 ns) 0 (variable_places (block_places old_before) (Some (Standard s)) old_initial) in
        ap (λ x. if x then place else None) (sym (in_standard s ns))
        ∙ ap (λ x. if same_lead (lead_by (lead_from ns) old_before x ns) (lead_from ns b.earlier b.unit) then position_from (λ e. same_path e.0 ns) 0 (variable_places (block_places old_before) x old_initial) else None) (sym t)
    by (of_block n u us t f d) ns = absurd (no_block (length us) d)

-- there is space for it
pub kept_capacity : (before : List ProgramUnit) (type : Option VariableType) (old_before : List ProgramUnit) (w : Variable) (ns : List Name) (first : ℕ) → ((n : ℕ) → position_from (λ e. same_path e.0 ns) 0 (own_places old_before w) ≡ Some n → first + n < 65536) →
    (n : ℕ) → kept_within before type old_before (type_named old_before w.type_name) w.initial ns ≡ Some n → first + n < 65536
kept_capacity before type old_before w ns first capacity n e = by (same_lead (lead_by (lead_from ns) old_before (type_named old_before w.type_name) ns) (lead_by (lead_from ns) before type ns)) e
  where
    by : (b : Bool) → (if b then position_from (λ e. same_path e.0 ns) 0 (own_places old_before w) else None) ≡ Some n → first + n < 65536
    by true e = capacity n e
    by false e = absurd (cc)

-- a variable of the new unit, and the one of the same name of the old unit
pub record Meets (before : List ProgramUnit) (u : ProgramUnit) (old_before : List ProgramUnit) (old : ProgramUnit) (number : ℕ) (entry : List Name × Content) (row old_row : Row) : Type 0 where
  pub v : Variable
  pub w : Variable
  pub inner : List Name × Content
  pub represents : slice_get (variable_places (block_places before) (type_named before v.type_name) v.initial) (number - row.first) ≡ Some inner
  pub type : type_at before v.type_name ≡ Some row.declared
  pub old_type : type_at old_before w.type_name ≡ Some old_row.declared
  pub is : option_map (λ n. old_row.first + n) (kept_within before (type_named before v.type_name) old_before (type_named old_before w.type_name) w.initial inner.0) ≡ kept_from before u old_before old entry.0
  pub capacity : (n : ℕ) → kept_within before (type_named before v.type_name) old_before (type_named old_before w.type_name) w.initial inner.0 ≡ Some n → old_row.first + n < 65536

pub meets : (old_units : List UnitTable) (before : List ProgramUnit) (u : ProgramUnit) (old_before : List ProgramUnit) (old : ProgramUnit) (number : ℕ) (entry : List Name × Content) (name : Name) (row old_row : Row) → HasPlace before u number entry name row → (o : Represents old_units old_before old) →
    row_named o.table.names o.table.rows.items name ≡ Some old_row → Meets before u old_before old number entry row old_row
meets old_units before u old_before old number entry name row old_row place o e =
    let into = from_row old_units old_before old o name place.inner.0 old_row e in
    record {
      v = place.variable;
      w = into.v;
      inner = place.inner;
      represents = place.represents;
      type = place.declared;
      old_type = into.declared;
      is = sym (ap (λ (x : List Name × Content). kept_from before u old_before old x.0) place.entry_is ∙ kept_in before u old_before old name place.inner.0 place.variable into.v old_row.first place.named into.named into.at_is);
      capacity = kept_capacity before (type_named before place.variable.type_name) old_before into.v place.inner.0 old_row.first (has_capacity old_row.first (own_places old_before into.v) place.inner.0 o.table.size into.capacity o.is.small);
    }
