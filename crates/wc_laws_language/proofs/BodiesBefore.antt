-- The rules on names and declarations of units do not look into bodies: with the lists of calls changed they are the same.
use Rattle.std.proofs.Common.{◌≡◌, Bool, true, false, not, ◌||◌, ◌&&◌, List, [], ◌∷◌, ◌++◌, map, length, Option, Some, None, is_some, refl, ap}
use Rattle.wc_model.proofs.Common.{if◌then◌else◌, flat_map}
use Rattle.wc_model.specs.Definitions.{Check, asks, positions_of, Block, Elementary, Standard, VariableType, block_named, block_type, elementary_types, is_block, named_in, same_name, standard_blocks, standard_type, type_named, variables_of, Name, Content, below, block_places, variable_places, Declaration, ProgramUnit, Text}
use Rattle.wc_model.specs.Language.DeclarationRules.{Taken, and_more, declaration_checks, is_among, is_new, may_occur, names_are_new, names_block_of, names_declared, not_reserved, places_of_type, capacity_checks, suits_type, taken_at_first, taken_by, type_words, unit_declaration_checks}
use Rattle.wc_laws_language.specs.DeclarationLaws.{ListChange, text_with, unit_with}

-- a block of that name in the whole text
same_blocks_of : (change : ListChange) (text : Text) (name : Name) → names_block_of (text_with change text) name ≡ names_block_of text name
same_blocks_of change [] name = refl
same_blocks_of change (unit ∷ text) name = ap (λ (b : Bool). (is_block unit && same_name unit.name.name name) || b) (same_blocks_of change text name)

-- a block of that name among the units before
abbrev Found : Type 0
Found = Option (ProgramUnit × List ProgramUnit)

found_at_first : (same block : Bool) (a b : ProgramUnit × List ProgramUnit) (x y : Found) → is_some x ≡ is_some y →
    is_some (elim same as (λ s. Found) [ true ↦ (if block then Some a else None) | false ↦ x ]) ≡ is_some (elim same as (λ s. Found) [ true ↦ (if block then Some b else None) | false ↦ y ])
found_at_first true true a b x y e = refl
found_at_first true false a b x y e = refl
found_at_first false block a b x y e = e

same_found : (change : ListChange) (before : List ProgramUnit) (name : Name) → is_some (block_named (text_with change before) name) ≡ is_some (block_named before name)
same_found change [] name = refl
same_found change (unit ∷ before) name =
    found_at_first (same_name unit.name.name name) (is_block unit) (unit_with change unit, text_with change before) (unit, before) (block_named (text_with change before) name)
    (block_named before name) (same_found change before name)

-- the type that a name is
type_of_found : (name : Name) (x y : Found) → is_some x ≡ is_some y →
    (elim x as (λ o. Option VariableType) [ Some found ↦ Some (Block name) | None ↦ None ]) ≡ (elim y as (λ o. Option VariableType) [ Some found ↦ Some (Block name) | None ↦ None ])
type_of_found name (Some a) (Some b) e = refl
type_of_found name (Some a) None e = cc
type_of_found name None (Some b) e = cc
type_of_found name None None e = refl

same_block_type : (change : ListChange) (before : List ProgramUnit) (name : Name) → block_type (text_with change before) name ≡ block_type before name
same_block_type change before name = type_of_found name (block_named (text_with change before) name) (block_named before name) (same_found change before name)

same_standard_type : (change : ListChange) (before : List ProgramUnit) (name : Name) → standard_type (text_with change before) name ≡ standard_type before name
same_standard_type change before name =
    λ i. elim (named_in standard_blocks name) as (λ o. Option VariableType) [ Some block ↦ Some (Standard block) | None ↦ same_block_type change before name i ]

same_types : (change : ListChange) (before : List ProgramUnit) → type_named (text_with change before) ≡ type_named before
same_types change before =
    λ i name. elim (named_in elementary_types name) as (λ o. Option VariableType) [ Some kind ↦ Some (Elementary kind) | None ↦ same_standard_type change before name i ]

-- the places of the blocks
abbrev Places : Type 0
Places = Name → List (List Name × Content)

places_with : (change : ListChange) (unit : ProgramUnit) (before : List ProgramUnit) → block_places (text_with change before) ≡ block_places before
    → block_places (text_with change (unit ∷ before)) ≡ block_places (unit ∷ before)
places_with change unit before rest =
    λ i name. elim (same_name unit.name.name name) as (λ b. List (List Name × Content)) [
      | true ↦ flat_map (λ v. below v.name (variable_places (rest i) (same_types change before i v.type_name) v.initial)) (variables_of unit)
      | false ↦ rest i name
    ]

same_places : (change : ListChange) (before : List ProgramUnit) → block_places (text_with change before) ≡ block_places before
same_places change [] = refl
same_places change (unit ∷ before) = places_with change unit before (same_places change before)

same_size : (change : ListChange) (before : List ProgramUnit) (name : Name) → places_of_type (text_with change before) name ≡ places_of_type before name
same_size change before name = λ i. length (variable_places (same_places change before i) (same_types change before i name) None)

-- what declarations take
same_taken : (change : ListChange) (before : List ProgramUnit) (ds : List Declaration) (taken : Taken) → taken_by (text_with change before) taken ds ≡ taken_by before taken ds
same_taken change before [] taken = refl
same_taken change before (d ∷ ds) taken = λ i. same_taken change before ds (and_more taken (length d.names) (same_size change before d.type_name.name i)) i

-- the rules of a declaration
same_declaration : (change : ListChange) (text : Text) (before : List ProgramUnit) (names : List Name) (taken : Taken) (d : Declaration)
    → declaration_checks (text_with change text) (text_with change before) names taken d ≡ declaration_checks text before names taken d
same_declaration change text before names taken d = λ i.
    names_are_new names d.names
    ++ (asks 308 d.type_name.line (is_among type_words d.type_name.name || same_found change before d.type_name.name i || not (same_blocks_of change text d.type_name.name i))
    ∷ asks 302 d.type_name.line (elim (same_types change before i d.type_name.name) as (λ o. Bool) [ Some type ↦ may_occur d.section type | None ↦ false ]) ∷ [])
    ++ (elim d.initial as (λ o. List Check) [ Some initial ↦ asks 303 initial.line (suits_type (same_types change before i d.type_name.name) initial.value) ∷ [] | None ↦ [] ])
    ++ capacity_checks taken (same_size change before d.type_name.name i) d.names

same_declarations : (change : ListChange) (text : Text) (before : List ProgramUnit) (unit : ProgramUnit)
    → unit_declaration_checks (text_with change text) (text_with change before) (unit_with change unit) ≡ unit_declaration_checks text before unit
same_declarations change text before unit =
    λ i. flat_map (λ position. same_declaration change text before (names_declared position.before) (same_taken change before position.before (taken_at_first unit) i) position.item i) (positions_of unit.declarations)

-- the names of the units before
same_names : (change : ListChange) (before : List ProgramUnit) → map (λ (u : ProgramUnit). u.name.name) (text_with change before) ≡ map (λ (u : ProgramUnit). u.name.name) before
same_names change [] = refl
same_names change (unit ∷ before) = ap (λ (names : List Name). unit.name.name ∷ names) (same_names change before)

-- the rules of a unit that precede those of its body
abbrev pub head_checks : Text → List ProgramUnit → ProgramUnit → List Check
head_checks text before unit = not_reserved unit.name ∷ is_new (map (λ (u : ProgramUnit). u.name.name) before) unit.name ∷ unit_declaration_checks text before unit

pub same_head : (change : ListChange) (text : Text) (before : List ProgramUnit) (unit : ProgramUnit)
    → head_checks (text_with change text) (text_with change before) (unit_with change unit) ≡ head_checks text before unit
same_head change text before unit =
    λ i. not_reserved unit.name ∷ is_new (same_names change before i) unit.name ∷ same_declarations change text before unit i
