-- A unit's frame as a list: the number of each place in it, and what the places hold as numbers (IEC 61131-3:2003, 2.4.1 and
-- 2.5.2.1: each instance has places of its own; that places are numbered in the order of declaration is the profile's own).
use Rattle.std.specs.Prelude.{ℕ, List, [], ◌∷◌, map, Option, Some, None, option_map, option_and_then, ℤ, pos, ◌≤ℤ◌, FitsSigned, if◌then◌else◌, Bool, true, false}
use Rattle.std.specs.Int.{w32}
use Rattle.std.specs.List.{flat_map, position_from}
use Rattle.wc_model.specs.Language.Checks.{Position, positions_of}
use Rattle.wc_model.specs.Language.Declarations.{Variable, VariableType, Elementary, Standard, Block, is_block, type_named, variables_of}
use Rattle.wc_model.specs.Language.DirectVariables.{variable_at}
use Rattle.wc_model.specs.Language.Names.{Name, name_of}
use Rattle.wc_model.specs.Language.Scopes.{Scope}
use Rattle.wc_model.specs.Language.Store.{Location, Direct, Path, Content, Plain, Moment, Phase, same_place, unit_places, program_frame}
use Rattle.wc_model.specs.Language.Tree.{ProgramUnit, Text}
use Rattle.wc_model.specs.declared.kind.Kind.{Kind}
use Rattle.wc_model.specs.declared.kind.SlotKind.{SlotKind}
use Rattle.wc_model.specs.declared.kind.SlotKind.TheVariants as slots
use Rattle.wc_model.specs.declared.place.Path.{Path as WrittenPath}
use Rattle.wc_model.specs.declared.place.Path.TheVariants as written
use Rattle.wc_model.specs.declared.source.Section.{Section}
use Rattle.wc_model.specs.declared.value.Value.TheVariants.{Bool as Truth, Dint, Time}

-- the frame of a unit: a program's begins with the directly represented variables, a block has none
abbrev pub frame_of : Scope → List (Location × Content)
frame_of scope = if is_block scope.unit then map (λ p. (Path p.0, p.1)) (unit_places scope.before scope.unit) else program_frame scope.before scope.unit

-- the number of a place: the number of places before it in the frame
abbrev pub place_number : List (Location × Content) → Location → Option ℕ
place_number frame place = position_from (λ entry. same_place entry.0 place) 0 frame

-- the place that a path names
abbrev pub location_of : WrittenPath → Option Location
location_of (written.Address text) = option_map Direct (variable_at (name_of text.now))
location_of (written.Names names) = Some (Path (map (λ name. name_of name.now) names.now))

-- the number of the place that a path names, in the frame of a unit
abbrev pub number_of_path : Scope → WrittenPath → Option ℕ
number_of_path scope path = option_and_then (place_number (frame_of scope)) (location_of path)

-- a unit of a text, in text order from 0, with those before it
abbrev pub scope_of_position : Position ProgramUnit → Scope
scope_of_position position = record { before = position.before; unit = position.item }

abbrev pub scopes_of : Text → List Scope
scopes_of text = map scope_of_position (positions_of text)

-- what a place holds, as its kind of slot
abbrev pub slot_kind_of : Content → SlotKind
slot_kind_of (Plain (Truth b)) = slots.Bool
slot_kind_of (Plain (Dint n)) = slots.Dint
slot_kind_of (Plain (Time t)) = slots.Time
slot_kind_of (Moment moment) = slots.Moment
slot_kind_of (Phase phase) = slots.Phase

-- and as a number: 0 or 1, the number, the milliseconds, the moment, the phase
abbrev pub bit_number : Bool → ℤ
bit_number false = pos 0
bit_number true = pos 1

abbrev pub content_number : Content → ℤ
content_number (Plain (Truth b)) = bit_number b
content_number (Plain (Dint n)) = n
content_number (Plain (Time t)) = t
content_number (Moment moment) = pos moment
content_number (Phase phase) = pos phase

-- the numbers that a slot of a kind may hold
pub record IsBetween (least greatest n : ℤ) : Type 0 where
  pub at_least : least ≤ℤ n
  pub at_most : n ≤ℤ greatest

abbrev pub IsInRange : SlotKind → ℤ → Type 0
IsInRange slots.Bool n = IsBetween (pos 0) (pos 1) n
IsInRange slots.Dint n = FitsSigned w32 n
IsInRange slots.Time n = FitsSigned w32 n
IsInRange slots.Moment n = IsBetween (pos 0) (pos 1099511627775) n
IsInRange slots.Phase n = IsBetween (pos 0) (pos 2) n

-- the kinds of the slots of a frame, and the numbers that they hold at first
abbrev pub slot_kinds : List (Location × Content) → List SlotKind
slot_kinds frame = map (λ entry. slot_kind_of entry.1) frame

abbrev pub first_numbers : List (Location × Content) → List ℤ
first_numbers frame = map (λ entry. content_number entry.1) frame

-- a plain variable of a unit: its name, its section, its kind, and the number of its place
pub record PlainVariable : Type 0 where
  pub name : Name
  pub section : Section
  pub kind : Kind
  pub place : Option ℕ

-- a variable of an elementary type; an instance is not one
abbrev pub plain_of : Scope → Variable → Option VariableType → List PlainVariable
plain_of scope v None = []
plain_of scope v (Some (Elementary kind)) = record { name = v.name; section = v.section; kind = kind; place = place_number (frame_of scope) (Path (v.name ∷ [])) } ∷ []
plain_of scope v (Some (Standard block)) = []
plain_of scope v (Some (Block name)) = []

-- the plain variables of a unit, in the order of declaration
abbrev pub plain_variables : Scope → List PlainVariable
plain_variables scope = flat_map (λ v. plain_of scope v (type_named scope.before v.type_name)) (variables_of scope.unit)
