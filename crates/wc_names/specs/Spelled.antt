-- The names of plain variables as they are spelled, defined over the code's own tree: the view of a text folds letter
-- case. (No rule of the language.)
use Rattle.std.specs.Prelude.{◌≡◌, ℕ, Bool, true, false, List, [], map, is_some, if◌then◌else◌, flat_map}
use Rattle.wc_model.specs.Definitions.{elementary_types, named_in, name_of}
use Rattle.wc_model.specs.declared.operand.Word.{Word}
use Rattle.wc_model.specs.declared.source.Decl.{Decl}
use Rattle.wc_model.specs.declared.source.Source.{Source}
use Rattle.wc_model.specs.declared.source.Unit.{Unit}
use Rattle.wc_names.specs.declared.declared_type.DeclaredType.{DeclaredType}
use Rattle.wc_names.specs.declared.declared_type.DeclaredType.TheVariants.{Elementary, Standard, Block}
use Rattle.wc_names.specs.declared.field.Field.{Field}
use Rattle.wc_names.specs.declared.kept.Tables.{Tables}
use Rattle.wc_names.specs.declared.unit_table.UnitTable.{UnitTable}

-- whether a type's name is that of an elementary type
abbrev pub is_plain : Word → Bool
is_plain type_name = is_some (named_in elementary_types (name_of type_name.text.now))

-- whether a type is an elementary one
abbrev pub is_elementary : DeclaredType → Bool
is_elementary (Elementary kind) = true
is_elementary (Standard block) = false
is_elementary (Block number) = false

-- words as they are spelled, if they are names of plain variables
abbrev pub spelled_where : Bool → List Word → List (List ℕ)
spelled_where plain words = if plain then map (λ word. word.text.now) words else []

-- the names of a declaration's plain variables
abbrev pub spelled_in : Decl → List (List ℕ)
spelled_in declaration = spelled_where (is_plain declaration.type_name) declaration.names.items

-- the names of a unit's plain variables, in the order of declaration
abbrev pub spelled_of_unit : Unit → List (List ℕ)
spelled_of_unit unit = flat_map spelled_in unit.declarations.items

-- the name of a plain variable, as it is spelled
abbrev pub spelled : Field → List ℕ
spelled field = field.name.now

-- the names that a table keeps of plain variables
abbrev pub spelled_in_table : UnitTable → List (List ℕ)
spelled_in_table table = map spelled table.fields.items

-- the tables spell the names of each unit's plain variables as the tree does
abbrev pub AreSpelledAs : Tables → Source → Type 0
AreSpelledAs tables source = map spelled_in_table tables.units.items ≡ map spelled_of_unit source.units.items
