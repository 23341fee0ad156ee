-- The members of a block, by the rows of its table.
use Rattle.wc_model.proofs.Common.{◌≡◌, ℕ, ◌+◌, Bool, true, false, List, [], ◌∷◌, ◌++◌, Option, Some, None, cond, map, length, option_map, refl, sym, ap, ◌∙◌, find, if◌then◌else◌, option_and_then, flat_map, position_from}
use Rattle.wc_model.specs.Definitions.{places_of_type, Member, Variable, VariableType, Elementary, Standard, Block, as_member, member_named, members_of, same_name, type_named, variables_of, elementary_kind, Name, same_path, unit_places, ProgramUnit}
use Rattle.wc_built_in.specs.Fields.{member_seen}
use Rattle.wc_names.specs.{kind_numbered, row_seen, number_within, numbered_type, AreRows, Represents, first_place, row_named}
use Rattle.wc_names.specs.declared.declared_type.DeclaredType.{DeclaredType}
use Rattle.wc_names.specs.declared.declared_type.DeclaredType.TheVariants as numbered
use Rattle.wc_names.specs.declared.unit_table.UnitTable.{UnitTable}
use Rattle.wc_names.specs.declared.variable.Variable.{Variable as Row}
use Rattle.wc_names.proofs.Lookups.{place_from}
use Rattle.wc_names.proofs.Places.{TypeCase, found_block, of_block, of_elementary, of_standard, holds_further, type_case}

-- the kind of a type, by its number
pub kind_case : (before : List ProgramUnit) (type : VariableType) (declared : DeclaredType) → TypeCase before (Some type) declared → elementary_kind type ≡ kind_numbered declared
kind_case before type declared (of_elementary k t d) = let e : type ≡ Elementary k = cc in ap elementary_kind e ∙ sym (ap kind_numbered d)
kind_case before type declared (of_standard b t d) = let e : type ≡ Standard b = cc in ap elementary_kind e ∙ sym (ap kind_numbered d)
kind_case before type declared (of_block n u us t f d) = let e : type ≡ Block n = cc in ap elementary_kind e ∙ sym (ap kind_numbered d)

first_or : (b : Bool) (m : Member) (row : Row) (rest : Option Member) (other : Option Row) → member_seen m ≡ row_seen row → option_map member_seen rest ≡ option_map row_seen other →
    option_map member_seen (cond b (Some m) rest) ≡ option_map row_seen (if b then Some row else other)
first_or true m row rest other e h = ap Some e
first_or false m row rest other e h = h

-- a variable of a known type is one member
one_member : (before : List ProgramUnit) (v : Variable) (row : Row) (more : List Member) (name : Name) (other : Option Row) (o : Option VariableType) → type_named before v.type_name ≡ o → option_and_then (numbered_type before) o ≡ Some row.declared → row.section ≡ v.section →
    option_map member_seen (find (λ m. same_name m.name name) more) ≡ option_map row_seen other →
    option_map member_seen (find (λ m. same_name m.name name) (as_member before v ++ more)) ≡ option_map row_seen (if same_name v.name name then Some row else other)
one_member before v row more name other None t e s h = cc
one_member before v row more name other (Some type) t e s h =
    let k = kind_case before type row.declared (type_case before (Some type) row.declared e) in
    ap (λ (x : Option VariableType). option_map member_seen (find (λ m. same_name m.name name) ((elim x as (λ y. List Member) [ Some ty ↦ record { name = v.name; section = v.section; type = ty } ∷ [] | None ↦ [] ]) ++ more))) t
    ∙ first_or (same_name v.name name) (record { name = v.name; section = v.section; type = type }) row (find (λ m. same_name m.name name) more) other (λ i. record { section = sym s i; kind = k i }) h

pub members_of_rows : (before : List ProgramUnit) (first : ℕ) (vs : List Variable) (rows : List Row) (name : Name) → AreRows before first vs rows →
    option_map member_seen (find (λ m. same_name m.name name) (flat_map (as_member before) vs)) ≡ option_map row_seen (row_named (map (λ v. v.name) vs) rows name)
members_of_rows before first [] [] name h = refl
members_of_rows before first [] (r ∷ rows) name h = absurd h
members_of_rows before first (v ∷ vs) [] name h = absurd h
members_of_rows before first (v ∷ vs) (row ∷ rows) name h =
    one_member before v row (flat_map (as_member before) vs) name (row_named (map (λ w. w.name) vs) rows name) (type_named before v.type_name) refl h.0.declared h.0.section
    (members_of_rows before (first + places_of_type before v.type_name) vs rows name h.1)

-- the table of the block of a type, and its members
pub record MembersOf (units : List UnitTable) (before : List ProgramUnit) (type : VariableType) (number : ℕ) (name : Name) : Type 0 where
  pub earlier : List ProgramUnit
  pub unit : ProgramUnit
  pub represents : Represents units earlier unit
  pub counted : number ≡ length earlier
  pub members : option_map row_seen (row_named represents.table.names represents.table.rows.items name) ≡ option_map member_seen (member_named (members_of before type) name)
  pub places : (ns : List Name) → place_from earlier unit ns ≡ number_within before type ns

pub members_by : (units : List UnitTable) (before : List ProgramUnit) (u : ProgramUnit) (h : Represents units before u) (type : VariableType) (number : ℕ) (name : Name) → numbered_type before type ≡ Some (numbered.Block number) →
    MembersOf units before type number name
members_by units before u h type number name e = by (type_case before (Some type) (numbered.Block number) e)
  where
    by : TypeCase before (Some type) (numbered.Block number) → MembersOf units before type number name
    by (of_elementary k t d) = cc
    by (of_standard b t d) = cc
    by (of_block m unit us t f d) =
        let found = found_block before h.others m unit us h.earlier f in
        let represents = holds_further h.others units us unit h.prefix found.represents in
        let same : type ≡ Block m = cc in
        let zero_first : first_place unit ≡ 0 = rw found.block refl in
        record {
          earlier = us;
          unit = unit;
          represents = represents;
          counted = cc;
          members = ap (λ ns. option_map row_seen (row_named ns represents.table.rows.items name)) represents.is.names ∙ sym (members_of_rows us _ (variables_of unit) represents.table.rows.items name represents.is.rows)
              ∙ sym (ap (λ x. option_map member_seen (member_named (members_of before x) name)) same
              ∙ ap (λ (o : Option (ProgramUnit × List ProgramUnit)). option_map member_seen (member_named (elim o as (λ x. List Member) [ Some g ↦ flat_map (as_member g.1) (variables_of g.0) | None ↦ [] ]) name)) f);
          places = λ ns. ap (λ first. position_from (λ e. same_path e.0 ns) first (unit_places us unit)) zero_first ∙ ap (position_from (λ e. same_path e.0 ns) 0) (sym found.places)
              ∙ ap (λ x. number_within before x ns) (sym same);
        }
