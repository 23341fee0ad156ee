-- What a path is found to be in a unit's table.
use Rattle.std.proofs.Common.{◌≡◌, ℕ, ◌+◌, ◌<◌, ◌≤◌, Bool, true, false, ◌&&◌, List, [], ◌∷◌, map, length, Option, Some, None, is_some, option_map, refl, sym, ap, subst, ◌∙◌, arith}
use Rattle.wc_model.proofs.Common.{find, if◌then◌else◌, option_and_then, position_from}
use Rattle.wc_model.specs.Definitions.{places_of_type, Variable, VariableType, Elementary, Standard, Block, same_name, variables_of, Name, Content, below, block_places, first_content, same_path, standard_fields, unit_places, variable_places, ProgramUnit, Scope, type_of, type_named}
use Rattle.wc_model.specs.declared.block.StandardBlock.{StandardBlock}
use Rattle.wc_model.specs.declared.kind.Kind.{Kind}
use Rattle.wc_model.specs.declared.source.Initial.{Initial}
use Rattle.wc_names.specs.{number_within, numbered_type, is_allowed_in, AreRows, Represents, end_of, first_from, first_number, first_place, row_named, type_at}
use Rattle.wc_names.specs.declared.declared_type.DeclaredType.{DeclaredType}
use Rattle.wc_names.specs.declared.declared_type.DeclaredType.TheVariants as numbered
use Rattle.wc_names.specs.declared.unit_table.UnitTable.{UnitTable}
use Rattle.wc_names.specs.declared.variable.Variable.{Variable as Row}
use Rattle.wc_names.proofs.Frames.{Leads, into, leads, nothing, own_places, places_of, rows_length}
use Rattle.wc_names.proofs.Places.{TypeCase, found_block, of_block, of_elementary, of_standard, holds_further, type_case}
use Rattle.wc_names.proofs.Positions.{or_else, position_alike, position_append, position_none, position_within}
use Rattle.wc_built_in.proofs.FieldTables.{position_from-map}

-- there are as many names as rows
pub named_rows : (units : List UnitTable) (before : List ProgramUnit) (u : ProgramUnit) (h : Represents units before u) → length h.table.names ≡ length h.table.rows.items
named_rows units before u h = ap length h.is.names ∙ rows_length before (first_place u) (variables_of u) h.table.rows.items h.is.rows

-- where the places of the variable of a name begin
rows_first : (before : List ProgramUnit) (first : ℕ) (vs : List Variable) (rows : List Row) (name : Name) → AreRows before first vs rows → option_map (λ (row : Row). row.first) (row_named (map (λ v. v.name) vs) rows name) ≡ first_from before first vs name
rows_first before first [] [] name h = refl
rows_first before first [] (row ∷ rows) name h = absurd h
rows_first before first (v ∷ vs) [] name h = absurd h
rows_first before first (v ∷ vs) (row ∷ rows) name h = by (same_name v.name name) (rows_first before (first + places_of_type before v.type_name) vs rows name h.1)
  where
    by : (b : Bool) → option_map (λ (r : Row). r.first) (row_named (map (λ w. w.name) vs) rows name) ≡ first_from before (first + places_of_type before v.type_name) vs name →
        option_map (λ (r : Row). r.first) (if b then Some row else row_named (map (λ w. w.name) vs) rows name) ≡ (if b then Some first else first_from before (first + places_of_type before v.type_name) vs name)
    by true rest = ap Some h.0.begins
    by false rest = rest

pub first_found : (units : List UnitTable) (scope : Scope) (h : Represents units scope.before scope.unit) (name : Name) → option_map (λ (row : Row). row.first) (row_named h.table.names h.table.rows.items name) ≡ first_number scope name
first_found units scope h name =
    ap (λ (names : List Name). option_map (λ (row : Row). row.first) (row_named names h.table.rows.items name)) h.is.names
    ∙ rows_first scope.before (first_place scope.unit) (variables_of scope.unit) h.table.rows.items name h.is.rows

-- where a path leads from a unit
abbrev pub place_from : List ProgramUnit → ProgramUnit → List Name → Option ℕ
place_from before u names = position_from (λ e. same_path e.0 names) (first_place u) (unit_places before u)

pub leads_from : (units : List UnitTable) (before : List ProgramUnit) (u : ProgramUnit) (h : Represents units before u) (name : Name) (ns : List Name) →
    Leads before (variables_of u) h.table.size name ns (row_named h.table.names h.table.rows.items name) (place_from before u (name ∷ ns))
leads_from units before u h name ns =
    subst (λ end. Leads before (variables_of u) end name ns (row_named h.table.names h.table.rows.items name) (place_from before u (name ∷ ns))) (sym h.is.size)
    (subst (λ names. Leads before (variables_of u) (end_of before (first_place u) (variables_of u)) name ns (row_named names h.table.rows.items name) (place_from before u (name ∷ ns))) (sym h.is.names)
    (leads before (first_place u) (variables_of u) h.table.rows.items name ns h.is.rows h.is.different))

-- no variable has the name
pub from_nothing : (units : List UnitTable) (before : List ProgramUnit) (u : ProgramUnit) (h : Represents units before u) (name : Name) (ns : List Name) → row_named h.table.names h.table.rows.items name ≡ None → place_from before u (name ∷ ns) ≡ None
from_nothing units before u h name ns e = by (leads_from units before u h name ns)
  where
    by : Leads before (variables_of u) h.table.size name ns (row_named h.table.names h.table.rows.items name) (place_from before u (name ∷ ns)) → place_from before u (name ∷ ns) ≡ None
    by (nothing f a m g) = a
    by (into v row f b n a l q) = let g : None ≡ Some row = sym e ∙ f in cc

-- a variable has it
pub record Into (before : List ProgramUnit) (u : ProgramUnit) (name : Name) (row : Row) (ns : List Name) (at : Option ℕ) (end : ℕ) : Type 0 where
  pub v : Variable
  pub declared : type_at before v.type_name ≡ Some row.declared
  pub at_is : at ≡ option_map (λ n. row.first + n) (position_from (λ e. same_path e.0 ns) 0 (own_places before v))
  pub capacity : row.first + length (own_places before v) ≤ end
  pub named : find (λ w. same_name w.name name) (variables_of u) ≡ Some v
  pub spelled : v.name ≡ name
  pub section : row.section ≡ v.section
  pub represents : is_allowed_in row.section row.declared ≡ true

pub from_row : (units : List UnitTable) (before : List ProgramUnit) (u : ProgramUnit) (h : Represents units before u) (name : Name) (ns : List Name) (row : Row) → row_named h.table.names h.table.rows.items name ≡ Some row →
    Into before u name row ns (place_from before u (name ∷ ns)) h.table.size
from_row units before u h name ns row e = by (leads_from units before u h name ns)
  where
    by : Leads before (variables_of u) h.table.size name ns (row_named h.table.names h.table.rows.items name) (place_from before u (name ∷ ns)) → Into before u name row ns (place_from before u (name ∷ ns)) h.table.size
    by (nothing f a m q) = let g : None ≡ Some row = sym f ∙ e in cc
    by (into v r f b n a l q) =
        let g : Some r ≡ Some row = sym f ∙ e in
        let same : r ≡ row = cc in
        subst (λ x. Into before u name x ns (place_from before u (name ∷ ns)) h.table.size) same (record { v = v; declared = b.is.declared; at_is = a; capacity = l; named = q; spelled = n; section = b.is.section; represents = ap (λ x. is_allowed_in x r.declared) b.is.section ∙ b.is.represents })

-- there is space for what is found within a variable
pub has_capacity : (first : ℕ) (own : List (List Name × Content)) (ns : List Name) (size : ℕ) → first + length own ≤ size → size ≤ 4096 → (n : ℕ) → position_from (λ e. same_path e.0 ns) 0 own ≡ Some n → first + n < 65536
has_capacity first own ns size capacity small n e = let l = position_within (λ e. same_path e.0 ns) 0 own n e in omega (arith, l, capacity, small)

-- the places within a variable, by its type
pub within_elementary : (before : List ProgramUnit) (v : Variable) (kind : Kind) (ns : List Name) (result : Option ℕ) → type_at before v.type_name ≡ Some (numbered.Elementary kind) →
    ((k : Kind) (initial : Option Initial) → result ≡ position_from (λ (e : List Name × Content). same_path e.0 ns) 0 (([], first_content k initial) ∷ [])) → result ≡ position_from (λ e. same_path e.0 ns) 0 (own_places before v)
within_elementary before v kind ns result e is = by (type_case before (type_named before v.type_name) (numbered.Elementary kind) e)
  where
    by : TypeCase before (type_named before v.type_name) (numbered.Elementary kind) → result ≡ position_from (λ e. same_path e.0 ns) 0 (own_places before v)
    by (of_elementary k t d) = is k v.initial ∙ sym (ap (λ x. position_from (λ e. same_path e.0 ns) 0 (variable_places (block_places before) x v.initial)) t)
    by (of_standard b t d) = cc
    by (of_block n u us t f d) = cc

pub within_standard : (before : List ProgramUnit) (v : Variable) (block : StandardBlock) (ns : List Name) (result : Option ℕ) → type_at before v.type_name ≡ Some (numbered.Standard block) →
    result ≡ position_from (λ (e : List Name × Content). same_path e.0 ns) 0 (map (λ f. (f.0 ∷ [], f.1)) (standard_fields block)) → result ≡ position_from (λ e. same_path e.0 ns) 0 (own_places before v)
within_standard before v block ns result e is = by (type_case before (type_named before v.type_name) (numbered.Standard block) e)
  where
    by : TypeCase before (type_named before v.type_name) (numbered.Standard block) → result ≡ position_from (λ e. same_path e.0 ns) 0 (own_places before v)
    by (of_elementary k t d) = cc
    by (of_standard b t d) =
        let same : block ≡ b = cc in
        is ∙ ap (λ x. position_from (λ (e : List Name × Content). same_path e.0 ns) 0 (variable_places (block_places before) (Some (Standard x)) v.initial)) same
        ∙ sym (ap (λ x. position_from (λ e. same_path e.0 ns) 0 (variable_places (block_places before) x v.initial)) t)
    by (of_block n u us t f d) = cc

-- the unit of a block's number
pub record BlockOf (units : List UnitTable) (before : List ProgramUnit) (v : Variable) (number : ℕ) (ns : List Name) : Type 0 where
  pub unit : ProgramUnit
  pub earlier : List ProgramUnit
  pub represents : Represents units earlier unit
  pub counted : number ≡ length earlier
  pub places : place_from earlier unit ns ≡ position_from (λ e. same_path e.0 ns) 0 (own_places before v)

pub within_block : (units : List UnitTable) (before : List ProgramUnit) (u : ProgramUnit) (h : Represents units before u) (v : Variable) (number : ℕ) (ns : List Name) → type_at before v.type_name ≡ Some (numbered.Block number) →
    BlockOf units before v number ns
within_block units before u h v number ns e = by (type_case before (type_named before v.type_name) (numbered.Block number) e)
  where
    by : TypeCase before (type_named before v.type_name) (numbered.Block number) → BlockOf units before v number ns
    by (of_elementary k t d) = cc
    by (of_standard b t d) = cc
    by (of_block m unit us t f d) =
        let found = found_block before h.others m unit us h.earlier f in
        let zero_first : first_place unit ≡ 0 = rw found.block refl in
        record {
          unit = unit;
          earlier = us;
          represents = holds_further h.others units us unit h.prefix found.represents;
          counted = cc;
          places = ap (λ first. position_from (λ e. same_path e.0 ns) first (unit_places us unit)) zero_first ∙ ap (position_from (λ e. same_path e.0 ns) 0) (sym found.places)
              ∙ sym (ap (λ x. position_from (λ e. same_path e.0 ns) 0 (variable_places (block_places before) x v.initial)) t);
        }

-- a path of one name, of none and of more, among the fields of a standard block
and_true : (b : Bool) → (b && true) ≡ b
and_true true = refl
and_true false = refl

and_false : (b : Bool) → (b && false) ≡ false
and_false true = refl
and_false false = refl

pub field_of_one : (fields : List (Name × Content)) (name : Name) → position_from (λ f. same_name f.0 name) 0 fields ≡ position_from (λ (e : List Name × Content). same_path e.0 (name ∷ [])) 0 (map (λ f. (f.0 ∷ [], f.1)) fields)
field_of_one fields name =
    sym (position_from-map (λ f. (f.0 ∷ [], f.1)) (λ (e : List Name × Content). same_path e.0 (name ∷ [])) 0 fields
    ∙ position_alike (λ (f : Name × Content). same_name f.0 name && true) (λ f. same_name f.0 name) 0 fields (λ f. and_true (same_name f.0 name)))

pub field_of_none : (fields : List (Name × Content)) → None ≡ position_from (λ (e : List Name × Content). same_path e.0 []) 0 (map (λ f. (f.0 ∷ [], f.1)) fields)
field_of_none fields = sym (position_from-map (λ f. (f.0 ∷ [], f.1)) (λ (e : List Name × Content). same_path e.0 []) 0 fields ∙ position_none 0 fields)

pub field_of_more : (fields : List (Name × Content)) (name next : Name) (ns : List Name) → None ≡ position_from (λ (e : List Name × Content). same_path e.0 (name ∷ next ∷ ns)) 0 (map (λ f. (f.0 ∷ [], f.1)) fields)
field_of_more fields name next ns =
    sym (position_from-map (λ f. (f.0 ∷ [], f.1)) (λ (e : List Name × Content). same_path e.0 (name ∷ next ∷ ns)) 0 fields
    ∙ position_alike (λ (f : Name × Content). same_name f.0 name && false) (λ f. false) 0 fields (λ f. and_false (same_name f.0 name)) ∙ position_none 0 fields)

-- a list of length 0
pub empty_list : {X : Type 0} (xs : List X) → length xs ≡ 0 → xs ≡ []
empty_list [] e = refl
empty_list (x ∷ xs) e = absurd (omega (arith, e))

-- no path of no name leads from a unit
nowhere_below : (v : Name) (i : ℕ) (own : List (List Name × Content)) → position_from (λ (e : List Name × Content). same_path e.0 []) i (below v own) ≡ None
nowhere_below v i own = position_from-map (λ p. (v ∷ p.0, p.1)) (λ (e : List Name × Content). same_path e.0 []) i own ∙ position_none i own

pub no_name : (before : List ProgramUnit) (first : ℕ) (vs : List Variable) → position_from (λ (e : List Name × Content). same_path e.0 []) first (places_of before vs) ≡ None
no_name before first [] = refl
no_name before first (v ∷ vs) =
    position_append (λ (e : List Name × Content). same_path e.0 []) first (below v.name (own_places before v)) (places_of before vs)
    ∙ ap (λ o. or_else o (position_from (λ (e : List Name × Content). same_path e.0 []) (first + length (below v.name (own_places before v))) (places_of before vs))) (nowhere_below v.name first (own_places before v))
    ∙ no_name before (first + length (below v.name (own_places before v))) vs

-- no variable has the name
pub none_named : (units : List UnitTable) (before : List ProgramUnit) (u : ProgramUnit) (h : Represents units before u) (name : Name) → row_named h.table.names h.table.rows.items name ≡ None → find (λ w. same_name w.name name) (variables_of u) ≡ None
none_named units before u h name e = by (leads_from units before u h name [])
  where
    by : Leads before (variables_of u) h.table.size name [] (row_named h.table.names h.table.rows.items name) (place_from before u (name ∷ [])) → find (λ w. same_name w.name name) (variables_of u) ≡ None
    by (nothing f a m g) = g
    by (into v row f b n a l q) = let g : None ≡ Some row = sym e ∙ f in cc

-- the type of a variable of a unit
pub type_at_found : (scope : Scope) (name : Name) (v : Variable) → find (λ w. same_name w.name name) (variables_of scope.unit) ≡ Some v → type_of scope name ≡ type_named scope.before v.type_name
type_at_found scope name v e = ap (λ (o : Option Variable). elim o as (λ x. Option VariableType) [ Some w ↦ type_named scope.before w.type_name | None ↦ None ]) e

pub type_not_found : (scope : Scope) (name : Name) → find (λ w. same_name w.name name) (variables_of scope.unit) ≡ None → type_of scope name ≡ None
type_not_found scope name e = ap (λ (o : Option Variable). elim o as (λ x. Option VariableType) [ Some w ↦ type_named scope.before w.type_name | None ↦ None ]) e

-- where a path leads within a variable does not depend on its first value
pub same_within : (before : List ProgramUnit) (type : VariableType) (initial : Option Initial) (ns : List Name) →
    position_from (λ e. same_path e.0 ns) 0 (variable_places (block_places before) (Some type) initial) ≡ number_within before type ns
same_within before (Elementary kind) initial ns = refl
same_within before (Standard block) initial ns = refl
same_within before (Block name) initial ns = refl

pub there_is : (before : List ProgramUnit) (o : Option VariableType) (declared : DeclaredType) → option_and_then (numbered_type before) o ≡ Some declared → true ≡ is_some o
there_is before None declared e = cc
there_is before (Some type) declared e = refl
