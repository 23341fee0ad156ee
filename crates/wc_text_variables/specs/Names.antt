-- What the name of a variable means in a text, as a person writes it for a program's variables, also by the number of its place. (The profile's own.)
use Rattle.std.specs.Prelude.{ℕ, ◌==◌, Bool, true, false, not, ◌&&◌, List, [], ◌∷◌, map, reverse, Option, Some, None, option_map, option_and_then, if◌then◌else◌, is_none}
use Rattle.std.specs.List.{slice_split}
use Rattle.wc_model.specs.Definitions.{VariableType, Standard, Block, block_named, member_named, standard_members, variable_at, Name, name_of, initial_of, type_of, kind_of, ProgramUnit, Text, frame_of_text, place_number}
use Rattle.wc_model.specs.Language.Store.{Location, Direct, Path, Content, Plain}
use Rattle.wc_model.specs.declared.block.StandardBlock.{StandardBlock}
use Rattle.wc_text_variables.specs.declared.variables.NamedVariable.{NamedVariable}

-- the parts of a name are between its dots
abbrev pub parts_in : List ℕ → List (List ℕ)
parts_in name = slice_split (λ byte. byte == 46) name

-- an address begins with a percent sign
abbrev pub is_address : List ℕ → Bool
is_address [] = false
is_address (byte ∷ bytes) = byte == 37

-- the place that a name names: a directly represented variable, or what the parts lead to from the program
abbrev pub place_named : List ℕ → Option Location
place_named name = if is_address name then option_map Direct (variable_at (name_of name)) else Some (Path (map name_of (parts_in name)))

-- texts can name the inputs and the outputs of an instance of a standard block; another field is hidden, and names that lead to one
abbrev pub is_hidden_field : StandardBlock → List Name → Bool
is_hidden_field block [] = false
is_hidden_field block (field ∷ names) = is_none (member_named (standard_members block) field)

abbrev pub is_hidden_by : (List ProgramUnit → ProgramUnit → Bool) → List ProgramUnit → Option VariableType → List Name → Bool
is_hidden_by onward before (Some (Standard block)) names = is_hidden_field block names
is_hidden_by onward before (Some (Block block)) names = elim (block_named before block) [ Some found ↦ onward found.1 found.0 | None ↦ false ]
is_hidden_by onward before type names = false

abbrev pub is_hidden_from : List Name → List ProgramUnit → ProgramUnit → Bool
is_hidden_from [] before unit = false
is_hidden_from (name ∷ names) before unit = is_hidden_by (is_hidden_from names) before (type_of (record { before = before; unit = unit }) name) names

-- so from the program, which is the last unit of a text
abbrev pub is_hidden : Text → Location → Bool
is_hidden text (Direct v) = false
is_hidden text (Path names) = elim (reverse text) [ program ∷ before ↦ is_hidden_from names before program | [] ↦ false ]

-- a BOOL, a DINT or a TIME; what a timer keeps for itself is not a value
abbrev pub is_value : Option Content → Bool
is_value (Some (Plain value)) = true
is_value content = false

-- the text's program has a value at the place, and texts can name it
abbrev pub is_readable : Text → Location → Bool
is_readable text place = is_value (initial_of text place) && not (is_hidden text place)

-- what a name means in a text: the place that it names, if that can be watched
abbrev pub if_readable : Text → Location → Option Location
if_readable text place = if is_readable text place then Some place else None

abbrev pub named_location : Text → List ℕ → Option Location
named_location text name = option_and_then (if_readable text) (place_named name)

-- a value by its kind, and the number of its place
abbrev pub numbered_variable : Option Content → Option ℕ → Option NamedVariable
numbered_variable (Some (Plain value)) (Some n) = Some (record { place = record { 0 = n }; kind = kind_of value })
numbered_variable content number = None

abbrev pub variable_at_location : Text → Location → Option NamedVariable
variable_at_location text place = numbered_variable (initial_of text place) (place_number (frame_of_text text) place)

-- what a name means in a text, by the number of its place
abbrev pub variable_named : Text → List ℕ → Option NamedVariable
variable_named text name = option_and_then (variable_at_location text) (named_location text name)
