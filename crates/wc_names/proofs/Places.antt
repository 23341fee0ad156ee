-- The number of places variables have.
use Rattle.wc_model.proofs.Common.{◌≡◌, ℕ, ◌+◌, Bool, true, false, List, [], ◌∷◌, ◌++◌, length, Option, Some, None, option_map, refl, sym, ap, subst, ◌∙◌, arith, length-append, option_and_then, if◌then◌else◌, slice_get, length-map, flat_map}
use Rattle.wc_model.specs.Definitions.{places_of_type, Variable, VariableType, Elementary, Standard, Block, block_named, block_type, elementary_types, is_block, named_in, same_name, standard_blocks, standard_type, type_named, variables_of, Name, Content, below, block_places, places_declared, standard_fields, variable_places, ProgramUnit}
use Rattle.wc_model.specs.declared.block.StandardBlock.{StandardBlock}
use Rattle.wc_model.specs.declared.kind.Kind.{Kind}
use Rattle.wc_model.specs.declared.source.Initial.{Initial}
use Rattle.wc_names.specs.{numbered_type, AreUnits, Represents, end_of, first_place, number_named, type_at}
use Rattle.wc_names.specs.declared.declared_type.DeclaredType.{DeclaredType}
use Rattle.wc_names.specs.declared.declared_type.DeclaredType.TheVariants as numbered
use Rattle.wc_names.specs.declared.unit_table.UnitTable.{UnitTable}
use Rattle.wc_names.proofs.Lists.{get_more, get_last}

-- the number of places a variable has does not depend on its first value
pub same_count : (places : Name → List (List Name × Content)) (type : Option VariableType) (initial : Option Initial) → length (variable_places places type initial) ≡ length (variable_places places type None)
same_count places None initial = refl
same_count places (Some (Elementary kind)) initial = refl
same_count places (Some (Standard block)) initial = refl
same_count places (Some (Block name)) initial = refl

-- the places of variables end after as many as they have
pub places_end : (before : List ProgramUnit) (first : ℕ) (vs : List Variable) →
    first + length (flat_map (λ v. below v.name (variable_places (block_places before) (type_named before v.type_name) v.initial)) vs) ≡ end_of before first vs
places_end before first [] = omega arith
places_end before first (v ∷ vs) =
    let own = variable_places (block_places before) (type_named before v.type_name) v.initial in
    let rest = flat_map (λ v. below v.name (variable_places (block_places before) (type_named before v.type_name) v.initial)) vs in
    let a : length (below v.name own ++ rest) ≡ length (below v.name own) + length rest = length-append (below v.name own) rest in
    let b : length (below v.name own) ≡ length own = length-map own (λ p. (v.name ∷ p.0, p.1)) in
    let c : length own ≡ places_of_type before v.type_name = same_count (block_places before) (type_named before v.type_name) v.initial in
    let d = places_end before (first + places_of_type before v.type_name) vs in
    let e : first + length (below v.name own ++ rest) ≡ (first + places_of_type before v.type_name) + length rest = omega (arith, a, b, c) in
    e ∙ d

-- there are as many tables as units
pub units_length : (before : List ProgramUnit) (tables : List UnitTable) → AreUnits before tables → length tables ≡ length before
units_length [] tables h = ap length h
units_length (unit ∷ before) tables h = ap length h.2 ∙ (let e : length (h.0 ++ h.1 ∷ []) ≡ length h.0 + length (h.1 ∷ []) = length-append h.0 (h.1 ∷ []) in let f : length h.0 ≡ length before = units_length before h.0 h.4 in omega (arith, e, f))

-- the table of the first unit
pub prefix_table : (unit : ProgramUnit) (before : List ProgramUnit) (tables : List UnitTable) (h : AreUnits (unit ∷ before) tables) → slice_get tables (length before) ≡ Some h.1
prefix_table unit before tables h =
    ap (λ ts. slice_get ts (length before)) h.2 ∙ ap (λ n. slice_get (h.0 ++ h.1 ∷ []) n) (sym (units_length before h.0 h.4)) ∙ get_last h.0 h.1

pub prefix_holds : (unit : ProgramUnit) (before : List ProgramUnit) (tables : List UnitTable) → AreUnits (unit ∷ before) tables → Represents tables before unit
prefix_holds unit before tables h = record {
  table = h.1;
  others = h.0;
  there = prefix_table unit before tables h;
  is = h.3;
  earlier = h.4;
  prefix = λ k t e. ap (λ ts. slice_get ts k) h.2 ∙ get_more h.0 (h.1 ∷ []) k t e;
}

pub holds_further : (tables more : List UnitTable) (before : List ProgramUnit) (unit : ProgramUnit) → ((k : ℕ) (t : UnitTable) → slice_get tables k ≡ Some t → slice_get more k ≡ Some t) → Represents tables before unit → Represents more before unit
holds_further tables more before unit step h = record {
  table = h.table;
  others = h.others;
  there = step (length before) h.table h.there;
  is = h.is;
  earlier = h.earlier;
  prefix = λ k t e. step k t (h.prefix k t e);
}

-- two pairs that are one have the same parts
same_pair : {X Y : Type 0} (a c : X) (b d : Y) → ◌≡◌ {A = Option (X × Y)} (Some (a, b)) (Some (c, d)) → (a ≡ c) × (b ≡ d)
same_pair {X} {Y} a c b d e = let p : ◌≡◌ {A = X × Y} (a, b) (c, d) = cc in (ap (λ (q : X × Y). q.0) p, ap (λ (q : X × Y). q.1) p)

-- what a name found among the units is: a block with its table, and its places
pub record Found (before : List ProgramUnit) (tables : List UnitTable) (name : Name) (unit : ProgramUnit) (earlier : List ProgramUnit) : Type 0 where
  pub represents : Represents tables earlier unit
  pub block : is_block unit ≡ true
  pub places : block_places before name ≡ places_declared (block_places earlier) earlier unit

found_in : (unit : ProgramUnit) (before : List ProgramUnit) (tables : List UnitTable) (name : Name) (h : AreUnits (unit ∷ before) tables) (u : ProgramUnit) (us : List ProgramUnit) →
    (block_named before name ≡ Some (u, us) → Found before h.0 name u us) →
    (same block : Bool) → same_name unit.name.name name ≡ same → is_block unit ≡ block → (elim same as (λ x. Option (ProgramUnit × List ProgramUnit)) [ true ↦ (if block then Some (unit, before) else None) | false ↦ block_named before name ]) ≡ Some (u, us) →
    Found (unit ∷ before) tables name u us
found_in unit before tables name h u us rest true true s b e =
    let parts = same_pair unit u before us e in
    let eu = parts.0 in
    let eus = parts.1 in
    let f : Found (unit ∷ before) tables name unit before = record {
      represents = prefix_holds unit before tables h;
      block = b;
      places = ap (λ t. elim t as (λ x. List (List Name × Content)) [ true ↦ places_declared (block_places before) before unit | false ↦ block_places before name ]) s;
    } in
    subst (λ y. Found (unit ∷ before) tables name u y) eus (subst (λ x. Found (unit ∷ before) tables name x before) eu f)
found_in unit before tables name h u us rest true false s b e = cc
found_in unit before tables name h u us rest false block s b e =
    let f = rest e in record {
      represents = holds_further h.0 tables us u (λ k t g. ap (λ ts. slice_get ts k) h.2 ∙ get_more h.0 (h.1 ∷ []) k t g) f.represents;
      block = f.block;
      places = ap (λ t. elim t as (λ x. List (List Name × Content)) [ true ↦ places_declared (block_places before) before unit | false ↦ block_places before name ]) s ∙ f.places;
    }

pub found_block : (before : List ProgramUnit) (tables : List UnitTable) (name : Name) (u : ProgramUnit) (us : List ProgramUnit) → AreUnits before tables → block_named before name ≡ Some (u, us) → Found before tables name u us
found_block [] tables name u us h e = cc
found_block (unit ∷ before) tables name u us h e =
    found_in unit before tables name h u us (found_block before h.0 name u us h.4) (same_name unit.name.name name) (is_block unit) refl refl e

-- what a unit found by its name is
numbered_in : (unit : ProgramUnit) (before : List ProgramUnit) (tables : List UnitTable) (name : Name) (h : AreUnits (unit ∷ before) tables) (n : ℕ) →
    (number_named before name ≡ Some n → (t : UnitTable) × (slice_get h.0 n ≡ Some t) × (option_map (λ f. length f.1) (block_named before name) ≡ (if t.is_block then Some n else None))) →
    (same : Bool) → (elim same as (λ x. Option ℕ) [ true ↦ Some (length before) | false ↦ number_named before name ]) ≡ Some n →
    (t : UnitTable) × (slice_get tables n ≡ Some t) × (option_map (λ f. length f.1) ((elim same as (λ x. Option (ProgramUnit × List ProgramUnit)) [ true ↦ (if is_block unit then Some (unit, before) else None) | false ↦ block_named before name ])) ≡ (if t.is_block then Some n else None))
numbered_in unit before tables name h n rest true e =
    let en : length before ≡ n = cc in (
      h.1,
      ap (λ k. slice_get tables k) (sym en) ∙ prefix_table unit before tables h,
      here (is_block unit) ∙ (λ i. if sym h.3.is_block i then Some (en i) else None),
    )
  where
    here : (b : Bool) → option_map (λ (f : ProgramUnit × List ProgramUnit). length f.1) (if b then Some (unit, before) else None) ≡ (if b then Some (length before) else None)
    here true = refl
    here false = refl
numbered_in unit before tables name h n rest false e =
    let r = rest e in (r.0, ap (λ ts. slice_get ts n) h.2 ∙ get_more h.0 (h.1 ∷ []) n r.0 r.1, r.2)

pub block_numbered : (before : List ProgramUnit) (tables : List UnitTable) (name : Name) (n : ℕ) → AreUnits before tables → number_named before name ≡ Some n →
    (t : UnitTable) × (slice_get tables n ≡ Some t) × (option_map (λ f. length f.1) (block_named before name) ≡ (if t.is_block then Some n else None))
block_numbered [] tables name n h e = cc
block_numbered (unit ∷ before) tables name n h e = numbered_in unit before tables name h n (block_numbered before h.0 name n h.4) (same_name unit.name.name name) e

none_in : (unit : ProgramUnit) (before : List ProgramUnit) (name : Name) → (number_named before name ≡ None → block_named before name ≡ None) →
    (same : Bool) → (elim same as (λ x. Option ℕ) [ true ↦ Some (length before) | false ↦ number_named before name ]) ≡ None → (elim same as (λ x. Option (ProgramUnit × List ProgramUnit)) [ true ↦ (if is_block unit then Some (unit, before) else None) | false ↦ block_named before name ]) ≡ None
none_in unit before name rest true e = cc
none_in unit before name rest false e = rest e

pub block_unnumbered : (before : List ProgramUnit) (name : Name) → number_named before name ≡ None → block_named before name ≡ None
block_unnumbered [] name e = refl
block_unnumbered (unit ∷ before) name e = none_in unit before name (block_unnumbered before name) (same_name unit.name.name name) e

-- a type that there is, by its name and by its number
pub data TypeCase (before : List ProgramUnit) (type : Option VariableType) (declared : DeclaredType) : Type 0 where
  of_elementary : (kind : Kind) → type ≡ Some (Elementary kind) → declared ≡ numbered.Elementary kind → TypeCase before type declared
  of_standard : (block : StandardBlock) → type ≡ Some (Standard block) → declared ≡ numbered.Standard block → TypeCase before type declared
  of_block : (name : Name) (u : ProgramUnit) (us : List ProgramUnit) → type ≡ Some (Block name) → block_named before name ≡ Some (u, us) → declared ≡ numbered.Block (length us) → TypeCase before type declared

block_case : (before : List ProgramUnit) (declared : DeclaredType) (name : Name) (found : Option (ProgramUnit × List ProgramUnit)) → block_named before name ≡ found → option_map (λ f. numbered.Block (length f.1)) found ≡ Some declared →
    TypeCase before (Some (Block name)) declared
block_case before declared name None e h = cc
block_case before declared name (Some found) e h = of_block name found.0 found.1 refl e (cc)

pub type_case : (before : List ProgramUnit) (type : Option VariableType) (declared : DeclaredType) → option_and_then (numbered_type before) type ≡ Some declared → TypeCase before type declared
type_case before None declared e = cc
type_case before (Some (Elementary kind)) declared e = of_elementary kind refl (cc)
type_case before (Some (Standard b)) declared e = of_standard b refl (cc)
type_case before (Some (Block name)) declared e = block_case before declared name (block_named before name) refl e

-- the number of places a type has
standard_width : (b : StandardBlock) (places : Name → List (List Name × Content)) → length (variable_places places (Some (Standard b)) None) ≡ length (standard_fields b)
standard_width b places = length-map (standard_fields b) (λ f. (f.0 ∷ [], f.1))

pub elementary_width : (before : List ProgramUnit) (name : Name) (kind : Kind) → type_at before name ≡ Some (numbered.Elementary kind) → 1 ≡ places_of_type before name
elementary_width before name kind e = by (type_case before (type_named before name) (numbered.Elementary kind) e)
  where
    by : TypeCase before (type_named before name) (numbered.Elementary kind) → 1 ≡ places_of_type before name
    by (of_elementary k t d) = rw t refl
    by (of_standard b t d) = cc
    by (of_block n u us t f d) = cc

pub standard_type_width : (before : List ProgramUnit) (name : Name) (b : StandardBlock) → type_at before name ≡ Some (numbered.Standard b) → length (standard_fields b) ≡ places_of_type before name
standard_type_width before name b e = by (type_case before (type_named before name) (numbered.Standard b) e)
  where
    by : TypeCase before (type_named before name) (numbered.Standard b) → length (standard_fields b) ≡ places_of_type before name
    by (of_elementary k t d) = cc
    by (of_standard c t d) = let same : b ≡ c = cc in rw t (ap (λ x. length (standard_fields x)) same ∙ sym (standard_width c (block_places before)))
    by (of_block n u us t f d) = cc

-- a block's frame is as large as its places are many
pub block_size : (before : List ProgramUnit) (tables : List UnitTable) (name : Name) (u : ProgramUnit) (us : List ProgramUnit) (f : Found before tables name u us) → f.represents.table.size ≡ length (block_places before name)
block_size before tables name u us f =
    let end = places_end us 0 (variables_of u) in
    let zero_first : first_place u ≡ 0 = rw f.block refl in
    let n : 0 + length (places_declared (block_places us) us u) ≡ length (places_declared (block_places us) us u) = omega arith in
    f.represents.is.size ∙ ap (λ first. end_of us first (variables_of u)) zero_first ∙ sym end ∙ n ∙ ap length (sym f.places)

pub block_type_width : (before : List ProgramUnit) (tables : List UnitTable) (name : Name) (n : ℕ) → AreUnits before tables → type_at before name ≡ Some (numbered.Block n) →
    (t : UnitTable) × (slice_get tables n ≡ Some t) × (t.size ≡ places_of_type before name)
block_type_width before tables name n h e = by (type_case before (type_named before name) (numbered.Block n) e)
  where
    by : TypeCase before (type_named before name) (numbered.Block n) → (t : UnitTable) × (slice_get tables n ≡ Some t) × (t.size ≡ places_of_type before name)
    by (of_elementary k t d) = cc
    by (of_standard b t d) = cc
    by (of_block m u us t f d) =
        let en : n ≡ length us = cc in
        let found = found_block before tables m u us h f in (
          found.represents.table,
          ap (λ k. slice_get tables k) en ∙ found.represents.there,
          block_size before tables m u us found ∙ ap (λ x. length (variable_places (block_places before) x None)) (sym t),
        )

-- a type of the text, if the name is no other type
numbered_block : (before : List ProgramUnit) (name : Name) (found : Option (ProgramUnit × List ProgramUnit)) → block_named before name ≡ found →
    option_and_then (numbered_type before) (elim found as (λ x. Option VariableType) [ Some f ↦ Some (Block name) | None ↦ None ]) ≡ option_map (λ f. numbered.Block (length f.1)) found
numbered_block before name None e = refl
numbered_block before name (Some f) e = ap (option_map (λ (f : ProgramUnit × List ProgramUnit). numbered.Block (length f.1))) e

pub type_at_block : (before : List ProgramUnit) (name : Name) → named_in elementary_types name ≡ None → named_in standard_blocks name ≡ None →
    type_at before name ≡ option_map (λ f. numbered.Block (length f.1)) (block_named before name)
type_at_block before name a b =
    ap (λ (o : Option Kind). option_and_then (numbered_type before) (elim o as (λ x. Option VariableType) [ Some kind ↦ Some (Elementary kind) | None ↦ standard_type before name ])) a
    ∙ ap (λ (o : Option StandardBlock). option_and_then (numbered_type before) (elim o as (λ x. Option VariableType) [ Some block ↦ Some (Standard block) | None ↦ block_type before name ])) b
    ∙ numbered_block before name (block_named before name) refl

counted_block : (found : Option (ProgramUnit × List ProgramUnit)) (n : ℕ) → Some n ≡ option_map (λ f. length f.1) found → option_map (λ f. numbered.Block (length f.1)) found ≡ Some (numbered.Block n)
counted_block None n e = cc
counted_block (Some f) n e = let m : n ≡ length f.1 = cc in ap (λ k. Some (numbered.Block k)) (sym m)

counted_none : (found : Option (ProgramUnit × List ProgramUnit)) → None ≡ option_map (λ f. length f.1) found → option_map (λ f. numbered.Block (length f.1)) found ≡ None
counted_none None e = refl
counted_none (Some f) e = cc

pub type_at_found : (before : List ProgramUnit) (name : Name) (n : ℕ) → named_in elementary_types name ≡ None → named_in standard_blocks name ≡ None → Some n ≡ option_map (λ f. length f.1) (block_named before name) →
    Some (numbered.Block n) ≡ type_at before name
type_at_found before name n a b e = sym (type_at_block before name a b ∙ counted_block (block_named before name) n e)

pub type_at_none : (before : List ProgramUnit) (name : Name) → named_in elementary_types name ≡ None → named_in standard_blocks name ≡ None → None ≡ option_map (λ f. length f.1) (block_named before name) →
    None ≡ type_at before name
type_at_none before name a b e = sym (type_at_block before name a b ∙ counted_none (block_named before name) e)
