-- What a term names from the body in which it is (IEC 61131-3:2003, 2.4.3.2 and 2.5.2.1): inputs of an instance are
-- written from outside, its outputs read.
use Rattle.std.specs.Prelude.{Bool, true, false, not, List, [], ◌∷◌, ◌++◌, Option, Some, None, if◌then◌else◌}
use Rattle.wc_model.specs.Language.Declarations.{Variable, VariableType, Elementary, Member, type_named, variable_named, members_of, member_named}
use Rattle.wc_model.specs.Language.DirectVariables.{variable_at, kind_of_direct, is_output}
use Rattle.wc_model.specs.Language.Names.{Name}
use Rattle.wc_model.specs.Language.Store.{Location, Direct, Path}
use Rattle.wc_model.specs.Language.Tree.{Term, Constant, Address, Variable as NameOf, Field, ProgramUnit}
use Rattle.wc_model.specs.declared.kind.Kind.{Kind}
use Rattle.wc_model.specs.declared.kind.Kind.TheVariants.{Bool as KindBool, Dint as KindDint, Time as KindTime}
use Rattle.wc_model.specs.declared.source.Section.{Section}
use Rattle.wc_model.specs.declared.source.Section.TheVariants.{Input, Output, Own}
use Rattle.wc_model.specs.declared.value.Value.{Value}
use Rattle.wc_model.specs.declared.value.Value.TheVariants.{Bool as Truth, Dint, Time}

-- the unit whose body is looked at, and those before it, newest first
pub record Scope : Type 0 where
  pub before : List ProgramUnit
  pub unit : ProgramUnit

-- what a term names: its type, whether it may be read and written from here, and its place within the unit's frame
pub record Entity : Type 0 where
  pub type : VariableType
  pub readable : Bool
  pub writable : Bool
  pub place : Option Location

-- the kind of a value
abbrev pub kind_of : Value → Kind
kind_of (Truth b) = KindBool
kind_of (Dint n) = KindDint
kind_of (Time t) = KindTime

-- all but inputs are written by the unit's own body
abbrev pub is_input : Section → Bool
is_input Input = true
is_input Output = false
is_input Own = false

abbrev pub is_result : Section → Bool
is_result Input = false
is_result Output = true
is_result Own = false

-- a variable of the unit
abbrev pub own_entity : Scope → Variable → Option Entity
own_entity scope v = elim (type_named scope.before v.type_name) [ Some type ↦ Some (record { type = type; readable = true; writable = not (is_input v.section); place = Some (Path (v.name ∷ [])) }) | None ↦ None ]

-- the type of a variable of the unit
abbrev pub type_of : Scope → Name → Option VariableType
type_of scope name = elim (variable_named scope.unit name) [ Some v ↦ type_named scope.before v.type_name | None ↦ None ]

-- a member of an instance of the unit
abbrev pub member_entity : Name → Member → Entity
member_entity instance m = record { type = m.type; readable = is_result m.section; writable = is_input m.section; place = Some (Path (instance ∷ m.name ∷ [])) }

abbrev pub field_entity : Scope → Name → Name → Option Entity
field_entity scope instance field = elim (type_of scope instance) [ Some type ↦ elim (member_named (members_of scope.before type) field) [ Some m ↦ Some (member_entity instance m) | None ↦ None ] | None ↦ None ]

-- what a term names, if there is such a thing
abbrev pub entity_of : Scope → Term → Option Entity
entity_of scope (Constant value) = Some (record { type = Elementary (kind_of value); readable = true; writable = false; place = None })
entity_of scope (Address word) = elim (variable_at word.name) [ Some v ↦ Some (record { type = Elementary (kind_of_direct v); readable = true; writable = is_output v; place = Some (Direct v) }) | None ↦ None ]
entity_of scope (NameOf name) = elim (variable_named scope.unit name) [ Some v ↦ own_entity scope v | None ↦ None ]
entity_of scope (Field instance field) = field_entity scope instance field

-- the place of what may be read, and of what may be written
abbrev pub readable_place : Scope → Term → Option Location
readable_place scope term = elim (entity_of scope term) [ Some e ↦ (if e.readable then e.place else None) | None ↦ None ]

abbrev pub writable_place : Scope → Term → Option Location
writable_place scope term = elim (entity_of scope term) [ Some e ↦ (if e.writable then e.place else None) | None ↦ None ]

-- a place of a unit's frame as a place of the program's, for the instance to which these names lead
abbrev pub within : List Name → Location → Location
within instance (Direct v) = Direct v
within instance (Path names) = Path (instance ++ names)
