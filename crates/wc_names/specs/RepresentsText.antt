-- The text that tables represent.
use Rattle.std.specs.Prelude.{◌≡◌, ℕ, ◌+◌, ◌≤◌, true, false, List, [], ◌∷◌, ◌++◌, map, length, Option, Some, None, if◌then◌else◌, option_map, option_and_then, slice_get}
use Rattle.wc_model.specs.Definitions.{is_among, places_of_type, taken_at_first, Variable, VariableType, Elementary, Standard, Block, is_block, same_name, type_named, variables_of, PlainVariable, Name, Scope, ProgramUnit, Text}
use Rattle.wc_names.specs.Numbered.{numbered_type, plain_of_field, is_allowed_in}
use Rattle.wc_names.specs.declared.declared_type.DeclaredType.{DeclaredType}
use Rattle.wc_names.specs.declared.kept.Tables.{Tables}
use Rattle.wc_names.specs.declared.unit_table.UnitTable.{UnitTable}
use Rattle.wc_names.specs.declared.variable.Variable.{Variable as Row}

-- the type of that name after these units, by its number
abbrev pub type_at : List ProgramUnit → Name → Option DeclaredType
type_at before name = option_and_then (numbered_type before) (type_named before name)

-- a row says of a variable what its declaration says, and where its places begin
pub record IsRow (before : List ProgramUnit) (first : ℕ) (v : Variable) (row : Row) : Type 0 where
  pub section : row.section ≡ v.section
  pub declared : type_at before v.type_name ≡ Some row.declared
  pub represents : is_allowed_in v.section row.declared ≡ true
  pub begins : row.first ≡ first
  pub initial : row.initial ≡ option_map (λ i. i.value) v.initial

-- the rows of variables whose places begin with this number
abbrev pub AreRows : List ProgramUnit → ℕ → List Variable → List Row → Type 0
AreRows before first [] [] = Unit {0}
AreRows before first (v ∷ vs) (row ∷ rows) = IsRow before first v row × AreRows before (first + places_of_type before v.type_name) vs rows
AreRows before first [] (row ∷ rows) = ⊥
AreRows before first (v ∷ vs) [] = ⊥

-- where the places of variables end
abbrev pub end_of : List ProgramUnit → ℕ → List Variable → ℕ
end_of before first [] = first
end_of before first (v ∷ vs) = end_of before (first + places_of_type before v.type_name) vs

-- the plain ones of variables whose places begin with this number
abbrev pub plain_at : ℕ → Variable → Option VariableType → List PlainVariable
plain_at first v None = []
plain_at first v (Some (Elementary kind)) = record { name = v.name; section = v.section; kind = kind; place = Some first } ∷ []
plain_at first v (Some (Standard block)) = []
plain_at first v (Some (Block name)) = []

abbrev pub plain_from : List ProgramUnit → ℕ → List Variable → List PlainVariable
plain_from before first [] = []
plain_from before first (v ∷ vs) = plain_at first v (type_named before v.type_name) ++ plain_from before (first + places_of_type before v.type_name) vs

-- no name occurs twice
abbrev pub AreDifferent : List Name → Type 0
AreDifferent [] = Unit {0}
AreDifferent (name ∷ names) = (is_among names name ≡ false) × AreDifferent names

-- the number of the first place of a unit's variables: a program's frame begins with the directly represented variables
abbrev pub first_place : ProgramUnit → ℕ
first_place unit = (taken_at_first unit).places

-- where the places of the first variable of that name begin, if those of all variables begin with this number
abbrev pub first_from : List ProgramUnit → ℕ → List Variable → Name → Option ℕ
first_from before first [] name = None
first_from before first (v ∷ vs) name = if same_name v.name name then Some first else first_from before (first + places_of_type before v.type_name) vs name

abbrev pub first_number : Scope → Name → Option ℕ
first_number scope name = first_from scope.before (first_place scope.unit) (variables_of scope.unit) name

-- the table of a unit after these
pub record IsTableOf (before : List ProgramUnit) (unit : ProgramUnit) (table : UnitTable) : Type 0 where
  pub is_block : table.is_block ≡ is_block unit
  pub names : table.names ≡ map (λ v. v.name) (variables_of unit)
  pub rows : AreRows before (first_place unit) (variables_of unit) table.rows.items
  pub fields : map plain_of_field table.fields.items ≡ plain_from before (first_place unit) (variables_of unit)
  pub size : table.size ≡ end_of before (first_place unit) (variables_of unit)
  pub small : table.size ≤ 4096
  pub different : AreDifferent (map (λ v. v.name) (variables_of unit))

-- the tables of units, newest first, in text order
abbrev pub AreUnits : List ProgramUnit → List UnitTable → Type 0
AreUnits [] tables = tables ≡ []
AreUnits (unit ∷ before) tables = (others : List UnitTable) × (table : UnitTable) × (tables ≡ others ++ table ∷ []) × IsTableOf before unit table × AreUnits before others

-- a unit among others with its table
pub record Represents (tables : List UnitTable) (before : List ProgramUnit) (unit : ProgramUnit) : Type 0 where
  pub table : UnitTable
  pub others : List UnitTable
  pub there : slice_get tables (length before) ≡ Some table
  pub is : IsTableOf before unit table
  pub earlier : AreUnits before others
  pub prefix : (k : ℕ) (t : UnitTable) → slice_get others k ≡ Some t → slice_get tables k ≡ Some t

-- the row of a name, next to it
abbrev pub row_named : List Name → List Row → Name → Option Row
row_named [] rows name = None
row_named (n ∷ names) [] name = None
row_named (n ∷ names) (row ∷ rows) name = if same_name n name then Some row else row_named names rows name

-- a list turned round and put before another
abbrev pub onto : {X : Type 0} → List X → List X → List X
onto [] following = following
onto (x ∷ xs) following = onto xs (x ∷ following)

-- the tables are those of this text
abbrev pub AreTables : Tables → Text → Type 0
AreTables tables text = AreUnits (onto text []) tables.units.items

-- the number of the unit of that name: the number of units before it
abbrev pub number_named : List ProgramUnit → Name → Option ℕ
number_named [] name = None
number_named (unit ∷ before) name = elim (same_name unit.name.name name) [ true ↦ Some (length before) | false ↦ number_named before name ]
