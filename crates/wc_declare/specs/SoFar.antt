-- What is kept while a text is checked, and what a table holds while a unit's declarations are. (No rule of the language.)
use Rattle.std.specs.Prelude.{◌≡◌, ℕ, Bool, false, [], ◌∷◌, List, length, map, Some, Result, IfErr}
use Rattle.std.specs.List.{position_from}
use Rattle.wc_model.specs.Language.DeclarationRules.{Taken, is_among, suits_kind, names_block_of}
use Rattle.wc_model.specs.Definitions.{Variable, is_block, same_name, PlainVariable, Name, name_of, ProgramUnit, Text}
use Rattle.wc_model.specs.declared.operand.Word.{Word as Spelled}
use Rattle.wc_model.specs.declared.value.Value.{Value}
use Rattle.wc_names.specs.{plain_of_field, AreRows, end_of, first_place, plain_from, AreUnits, number_named}
use Rattle.wc_names.specs.declared.declared_type.DeclaredType.{DeclaredType}
use Rattle.wc_names.specs.declared.declared_type.DeclaredType.TheVariants.{Elementary, Standard, Block}
use Rattle.wc_names.specs.declared.unit_table.UnitTable.{UnitTable}
use Rattle.wc_names.specs.declared.variable.Variable.{Variable as Row}
use Rattle.wc_model.specs.declared.fault.Fault.{Fault}
use Rattle.wc_model.specs.declared.fault.Fault.TheVariants.{Memory}
use Rattle.wc_declare.specs.declared.types.Units.{Units}

-- this many variables and places are taken by the table's variables
pub record HasTaken (taken : Taken) (table : UnitTable) : Type 0 where
  pub variables : taken.variables ≡ length table.rows.items
  pub places : taken.places ≡ table.size

-- a variable of this type as a plain one
abbrev pub plain_as : DeclaredType → Name → Row → List PlainVariable
plain_as (Elementary kind) name row = record { name = name; section = row.section; kind = kind; place = Some row.first } ∷ []
plain_as (Standard block) name row = []
plain_as (Block number) name row = []

abbrev pub plain_of : Spelled → Row → List PlainVariable
plain_of word row = plain_as row.declared (name_of word.text.now) row

-- the same names are in both
abbrev pub SameNames : List Name → List Name → Type 0
SameNames these those = (name : Name) → is_among these name ≡ is_among those name

-- a literal is one of the type
abbrev pub suits_numbered : DeclaredType → Value → Bool
suits_numbered (Elementary kind) value = suits_kind kind value
suits_numbered (Standard block) value = false
suits_numbered (Block number) value = false

-- the table holds these variables, whose places begin with this number
pub record HoldsRows (before : List ProgramUnit) (first : ℕ) (vs : List Variable) (table : UnitTable) : Type 0 where
  pub rows : AreRows before first vs table.rows.items
  pub size : table.size ≡ end_of before first vs
  pub fields : map plain_of_field table.fields.items ≡ plain_from before first vs

-- the table of a unit of which nothing is declared yet
pub record IsEmptyOf (unit : ProgramUnit) (table : UnitTable) : Type 0 where
  pub is_block : table.is_block ≡ is_block unit
  pub names : table.names ≡ []
  pub rows : table.rows.items ≡ []
  pub fields : table.fields.items ≡ []
  pub size : table.size ≡ first_place unit

-- the names of all blocks of the text, and the units so far
pub record AreUnitsOf (text : Text) (before : List ProgramUnit) (units : Units) : Type 0 where
  pub blocks : (name : Name) → is_among units.blocks name ≡ names_block_of text name
  pub numbers : (name : Name) → position_from (λ n. same_name n name) 0 units.names ≡ number_named before name
  pub among : (name : Name) → is_among units.names name ≡ is_among (map (λ u. u.name.name) before) name
  pub counted : length units.names ≡ length before
  pub tables : AreUnits before units.tables.items

-- it takes no memory, so a refusal is not reported as out of memory
abbrev pub TakesNoMemory : {X : Type 0} → Result X Fault → Type 0
TakesNoMemory result = IfErr result (λ fault. fault ≡ Memory → ⊥)
