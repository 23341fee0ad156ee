-- Units and types by their numbers, and what names represent by numbers. (No rule of the language.)
use Rattle.std.specs.Prelude.{◌≡◌, ℕ, Bool, true, ◌+◌, List, [], ◌∷◌, Option, Some, None, option_map, option_and_then, slice_get, length}
use Rattle.std.specs.List.{position_from}
use Rattle.wc_model.specs.Definitions.{is_own, Member, VariableType, Elementary, Standard, Block, block_named, PlainVariable, frame_of, place_number, scopes_of, elementary_kind, Name, name_of, Scope, Entity, Path, block_places, same_path, variable_places, ProgramUnit, Text}
use Rattle.wc_model.specs.declared.source.Section.{Section}
use Rattle.wc_names.specs.declared.declared_type.DeclaredType.{DeclaredType}
use Rattle.wc_names.specs.declared.declared_type.DeclaredType.TheVariants as numbered
use Rattle.wc_names.specs.declared.entity.Entity.{Entity as FoundEntity}
use Rattle.wc_names.specs.declared.field.Field.{Field}
use Rattle.wc_names.specs.declared.formal.FormalSlot.{FormalSlot}

-- the unit of that number in the text, in text order from 0, with those before it
abbrev pub IsUnit : Text → ℕ → Scope → Type 0
IsUnit text unit scope = slice_get (scopes_of text) unit ≡ Some scope

-- a type by the number of its block: the number of units before the block
abbrev pub numbered_type : List ProgramUnit → VariableType → Option DeclaredType
numbered_type before (Elementary kind) = Some (numbered.Elementary kind)
numbered_type before (Standard block) = Some (numbered.Standard block)
numbered_type before (Block name) = option_map (λ found. numbered.Block (length found.1)) (block_named before name)

-- a variable of the type may be in the section
abbrev pub is_allowed_in : Section → DeclaredType → Bool
is_allowed_in section (numbered.Elementary kind) = true
is_allowed_in section (numbered.Standard block) = is_own section
is_allowed_in section (numbered.Block number) = is_own section

-- the number of a place among those of an instance of a type
abbrev pub number_within : List ProgramUnit → VariableType → List Name → Option ℕ
number_within before type names = position_from (λ entry. same_path entry.0 names) 0 (variable_places (block_places before) (Some type) None)

-- an input or output by its kind, and by the number of its place among those of an instance of the type
abbrev pub numbered_formal : List ProgramUnit → VariableType → Member → Option FormalSlot
numbered_formal before type m = option_and_then (λ kind. option_map (λ n. record { kind = kind; place = n }) (number_within before type (m.name ∷ []))) (elementary_kind m.type)

-- what a term names, by the number of its place in the unit's frame; an instance has no kind and no place
abbrev pub numbered_entity : Scope → Entity → FoundEntity
numbered_entity scope e = record {
  kind = elementary_kind e.type;
  readable = e.readable;
  writable = e.writable;
  place = option_map (λ n. record { 0 = n }) (option_and_then (place_number (frame_of scope)) e.place);
}

-- the places of a variable of this type are in the unit's frame from this number on, in the order of the type's own
abbrev pub StartsAt : Scope → Name → VariableType → ℕ → Type 0
StartsAt scope name type first =
    (names : List Name) → place_number (frame_of scope) (Path (name ∷ names)) ≡ option_map (λ n. first + n) (number_within scope.before type names)

-- a plain variable with its name, section, kind and place
abbrev pub plain_of_field : Field → PlainVariable
plain_of_field f = record { name = name_of f.name.now; section = f.section; kind = f.kind; place = Some f.place.0 }
