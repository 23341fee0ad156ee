-- What terms name, by the rows of a unit's table.
use Rattle.wc_model.proofs.Common.{◌≡◌, ℕ, Bool, true, false, not, List, [], ◌∷◌, Option, Some, None, cond, option_map, refl, sym, ap, ◌∙◌, find, option_and_then, bytes_eq-Decides}
use Rattle.wc_model.specs.Definitions.{Member, Variable, VariableType, member_named, members_of, same_name, type_named, variables_of, frame_of, place_number, Name, Entity, Scope, entity_of, is_input, is_result, member_entity, own_entity, type_of, Path}
use Rattle.wc_model.specs.Language.Tree.{Field, Variable as NameOf}
use Rattle.wc_model.specs.declared.kind.Kind.{Kind}
use Rattle.wc_built_in.specs.Fields.{Seen, member_seen}
use Rattle.wc_names.specs.{kind_numbered, numbered_entity, numbered_type}
use Rattle.wc_names.specs.declared.entity.Entity.{Entity as FoundEntity}
use Rattle.wc_names.specs.declared.variable.Variable.{Variable as Row}
use Rattle.wc_names.proofs.MemberTables.{kind_case}
use Rattle.wc_names.proofs.Places.{type_case}

-- an entity with the number of its place
abbrev pub made : Option Kind → Bool → Bool → Option ℕ → FoundEntity
made kind readable writable number = record { kind = kind; readable = readable; writable = writable; place = option_map (λ n. record { 0 = n }) number }

own_named : (scope : Scope) (name : Name) (v : Variable) (row : Row) (o : Option VariableType) → type_named scope.before v.type_name ≡ o → option_and_then (numbered_type scope.before) o ≡ Some row.declared → row.section ≡ v.section → v.name ≡ name →
    Some (made (kind_numbered row.declared) true (not (is_input row.section)) (place_number (frame_of scope) (Path (name ∷ [])))) ≡ option_map (numbered_entity scope) (own_entity scope v)
own_named scope name v row None t e s n = cc
own_named scope name v row (Some type) t e s n =
    let k = kind_case scope.before type row.declared (type_case scope.before (Some type) row.declared e) in
    (λ i. Some (made (sym k i) true (not (is_input (s i))) (place_number (frame_of scope) (Path (sym n i ∷ [])))))
    ∙ sym (ap (λ (x : Option VariableType). option_map (numbered_entity scope) (elim x as (λ y. Option Entity) [ Some ty ↦ Some (record { type = ty; readable = true; writable = not (is_input v.section); place = Some (Path (v.name ∷ [])) }) | None ↦ None ])) t)

pub name_named : (scope : Scope) (name : Name) (v : Variable) (row : Row) → find (λ w. same_name w.name name) (variables_of scope.unit) ≡ Some v → option_and_then (numbered_type scope.before) (type_named scope.before v.type_name) ≡ Some row.declared → row.section ≡ v.section → v.name ≡ name →
    Some (made (kind_numbered row.declared) true (not (is_input row.section)) (place_number (frame_of scope) (Path (name ∷ [])))) ≡ option_map (numbered_entity scope) (entity_of scope (NameOf name))
name_named scope name v row f e s n =
    own_named scope name v row (type_named scope.before v.type_name) refl e s n
    ∙ sym (ap (λ (o : Option Variable). option_map (numbered_entity scope) (elim o as (λ x. Option Entity) [ Some w ↦ own_entity scope w | None ↦ None ])) f)

pub no_name_named : (scope : Scope) (name : Name) → find (λ w. same_name w.name name) (variables_of scope.unit) ≡ None → None ≡ option_map (numbered_entity scope) (entity_of scope (NameOf name))
no_name_named scope name f = sym (ap (λ (o : Option Variable). option_map (numbered_entity scope) (elim o as (λ x. Option Entity) [ Some w ↦ own_entity scope w | None ↦ None ])) f)

-- a member that is found has the name
pub found_name : (ms : List Member) (name : Name) (m : Member) → find (λ x. same_name x.name name) ms ≡ Some m → m.name ≡ name
found_name [] name m e = cc
found_name (x ∷ ms) name m e = by (same_name x.name name) refl e (found_name ms name m)
  where
    by : (b : Bool) → same_name x.name name ≡ b → cond b (Some x) (find (λ y. same_name y.name name) ms) ≡ Some m → (find (λ y. same_name y.name name) ms ≡ Some m → m.name ≡ name) → m.name ≡ name
    by true s f rest = let same : x ≡ m = cc in sym (ap (λ (y : Member). y.name) same) ∙ (bytes_eq-Decides x.name name).0 s
    by false s f rest = rest f

field_by : (scope : Scope) (instance field : Name) (seen : Seen) (o : Option Member) → ((m : Member) → o ≡ Some m → m.name ≡ field) → Some seen ≡ option_map member_seen o →
    Some (made seen.kind (is_result seen.section) (is_input seen.section) (place_number (frame_of scope) (Path (instance ∷ field ∷ []))))
    ≡ option_map (numbered_entity scope) (elim o as (λ x. Option Entity) [ Some m ↦ Some (member_entity instance m) | None ↦ None ])
field_by scope instance field seen None n e = cc
field_by scope instance field seen (Some m) n e =
    let same : seen ≡ member_seen m = cc in
    (λ i. Some (made (same i).kind (is_result (same i).section) (is_input (same i).section) (place_number (frame_of scope) (Path (instance ∷ sym (n m refl) i ∷ [])))))

abbrev through : Scope → Name → Name → Option VariableType → Option FoundEntity
through scope instance field o =
    option_map (numbered_entity scope) (elim o as (λ x. Option Entity) [ Some type ↦ elim (member_named (members_of scope.before type) field) as (λ x. Option Entity) [ Some m ↦ Some (member_entity instance m) | None ↦ None ] | None ↦ None ])

pub field_named : (scope : Scope) (instance field : Name) (type : VariableType) (seen : Seen) → type_of scope instance ≡ Some type → Some seen ≡ option_map member_seen (member_named (members_of scope.before type) field) →
    Some (made seen.kind (is_result seen.section) (is_input seen.section) (place_number (frame_of scope) (Path (instance ∷ field ∷ [])))) ≡ option_map (numbered_entity scope) (entity_of scope (Field instance field))
field_named scope instance field type seen t e =
    field_by scope instance field seen (member_named (members_of scope.before type) field) (λ m f. found_name (members_of scope.before type) field m f) e
    ∙ sym (ap (through scope instance field) t)

none_by : (scope : Scope) (instance : Name) (o : Option Member) → None ≡ option_map member_seen o → None ≡ option_map (numbered_entity scope) (elim o as (λ x. Option Entity) [ Some m ↦ Some (member_entity instance m) | None ↦ None ])
none_by scope instance None e = refl
none_by scope instance (Some m) e = cc

pub no_field_named : (scope : Scope) (instance field : Name) (type : VariableType) → type_of scope instance ≡ Some type → None ≡ option_map member_seen (member_named (members_of scope.before type) field) →
    None ≡ option_map (numbered_entity scope) (entity_of scope (Field instance field))
no_field_named scope instance field type t e = none_by scope instance (member_named (members_of scope.before type) field) e ∙ sym (ap (through scope instance field) t)

pub no_instance : (scope : Scope) (instance field : Name) → type_of scope instance ≡ None → None ≡ option_map (numbered_entity scope) (entity_of scope (Field instance field))
no_instance scope instance field t = sym (ap (through scope instance field) t)
