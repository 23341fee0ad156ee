-- The plain variables of a unit, by its table.
use Rattle.wc_model.proofs.Common.{◌≡◌, ℕ, ◌+◌, Bool, true, false, List, [], ◌∷◌, ◌++◌, Option, Some, None, cond, map, length, refl, sym, ap, subst, ◌∙◌, length-map, bytes_eq-Decides, flat_map, position_from}
use Rattle.std.specs.Prelude.{◌||◌}
use Rattle.wc_model.specs.Definitions.{is_among, places_of_type, Variable, VariableType, Elementary, Standard, Block, same_name, type_named, variables_of, frame_of, place_number, plain_of, plain_variables, Name, Scope, Path, below, block_places, same_path, variable_places, ProgramUnit}
use Rattle.wc_model.specs.declared.kind.Kind.{Kind}
use Rattle.wc_names.specs.{plain_of_field, AreDifferent, Represents, first_place, plain_at, plain_from}
use Rattle.wc_names.specs.declared.unit_table.UnitTable.{UnitTable}
use Rattle.wc_names.proofs.Frames.{own_places, places_of, position_below}
use Rattle.wc_names.proofs.Places.{same_count}
use Rattle.wc_names.proofs.Positions.{or_else, position_append}
use Rattle.wc_names.proofs.ScopeTables.{frame_path}

-- a variable at the place that its name has
plain_here : (scope : Scope) (first : ℕ) (v : Variable) (type : Option VariableType) → ((kind : Kind) → type ≡ Some (Elementary kind) → place_number (frame_of scope) (Path (v.name ∷ [])) ≡ Some first) → plain_at first v type ≡ plain_of scope v type
plain_here scope first v None h = refl
plain_here scope first v (Some (Elementary kind)) h = λ i. record { name = v.name; section = v.section; kind = kind; place = sym (h kind refl) i } ∷ []
plain_here scope first v (Some (Standard block)) h = refl
plain_here scope first v (Some (Block name)) h = refl

-- a name among the places of a variable and those after it
cut : (before : List ProgramUnit) (first : ℕ) (v : Variable) (vs : List Variable) (name : Name) (same : Bool) → same_name v.name name ≡ same →
    position_from (λ e. same_path e.0 (name ∷ [])) first (places_of before (v ∷ vs))
    ≡ or_else (cond same (position_from (λ e. same_path e.0 []) first (own_places before v)) None) (position_from (λ e. same_path e.0 (name ∷ [])) (first + places_of_type before v.type_name) (places_of before vs))
cut before first v vs name same s =
    let own = own_places before v in
    let size : length (below v.name own) ≡ places_of_type before v.type_name = length-map own (λ p. (v.name ∷ p.0, p.1)) ∙ same_count (block_places before) (type_named before v.type_name) v.initial in
    position_append (λ e. same_path e.0 (name ∷ [])) first (below v.name own) (places_of before vs)
    ∙ (λ i. or_else ((position_below v.name name [] first own ∙ ap (λ b. cond b (position_from (λ e. same_path e.0 []) first own) None) s) i) (position_from (λ e. same_path e.0 (name ∷ [])) (first + size i) (places_of before vs)))

-- a variable's own name leads to its first place
to_first : (before : List ProgramUnit) (first : ℕ) (v : Variable) (vs : List Variable) (kind : Kind) → type_named before v.type_name ≡ Some (Elementary kind) → position_from (λ e. same_path e.0 (v.name ∷ [])) first (places_of before (v ∷ vs)) ≡ Some first
to_first before first v vs kind t =
    cut before first v vs v.name true ((bytes_eq-Decides v.name v.name).1 refl)
    ∙ ap (λ x. or_else (position_from (λ e. same_path e.0 []) first (variable_places (block_places before) x v.initial)) (position_from (λ e. same_path e.0 (v.name ∷ [])) (first + places_of_type before v.type_name) (places_of before vs))) t

-- no name of those after is that of a variable
another : (names : List Name) (own name : Name) → is_among names own ≡ false → is_among names name ≡ true → same_name own name ≡ false
another names own name d a = by (same_name own name) refl
  where
    by : (same : Bool) → same_name own name ≡ same → same ≡ false
    by true s = let e : own ≡ name = (bytes_eq-Decides own name).0 s in let f : is_among names name ≡ false = subst (λ n. is_among names n ≡ false) e d in cc
    by false s = refl

plain_after : (scope : Scope) (first : ℕ) (vs : List Variable) → AreDifferent (map (λ v. v.name) vs) →
    ((name : Name) → is_among (map (λ v. v.name) vs) name ≡ true → place_number (frame_of scope) (Path (name ∷ [])) ≡ position_from (λ e. same_path e.0 (name ∷ [])) first (places_of scope.before vs)) →
    plain_from scope.before first vs ≡ flat_map (λ v. plain_of scope v (type_named scope.before v.type_name)) vs
plain_after scope first [] d h = refl
plain_after scope first (v ∷ vs) d h =
    let names = map (λ (w : Variable). w.name) vs in
    let self : same_name v.name v.name ≡ true = (bytes_eq-Decides v.name v.name).1 refl in
    let here = plain_here scope first v (type_named scope.before v.type_name) (λ kind t. h v.name (ap (λ b. b || is_among names v.name) self) ∙ to_first scope.before first v vs kind t) in
    let rest = plain_after scope (first + places_of_type scope.before v.type_name) vs d.1 (λ name a.
    h name (or_true (same_name name v.name) (is_among names name) a) ∙ cut scope.before first v vs name false (another names v.name name d.0 a)) in
    λ i. here i ++ rest i
  where
    or_true : (a b : Bool) → b ≡ true → (a || b) ≡ true
    or_true true b e = refl
    or_true false b e = e

-- the plain variables of a table are those of its unit
pub plain_fields : (units : List UnitTable) (scope : Scope) (h : Represents units scope.before scope.unit) → map plain_of_field h.table.fields.items ≡ plain_variables scope
plain_fields units scope h = h.is.fields ∙ plain_after scope (first_place scope.unit) (variables_of scope.unit) h.is.different (λ name a. frame_path scope (name ∷ []))
