-- A unit of a text next to the unit of another text at which the same names have led, as both are gone
-- through. (No rule of the language.)
use Rattle.std.specs.Prelude.{◌≡◌, ℕ, Bool, true, false, List, ◌∷◌, ◌++◌, length, Option, Some, None, MatchOption, option_and_then, option_map, slice_get, IsNone, IsSomeAnd}
use Rattle.std.specs.List.{flat_map, list_all}
use Rattle.wc_model.specs.Definitions.{Lead, lead_from, same_lead, Name, name_of, Scope, type_of, first_content, Text}
use Rattle.wc_model.specs.declared.source.Initial.{Initial}
use Rattle.wc_model.specs.declared.source.Source.{Source}
use Rattle.wc_model.specs.declared.source.Unit.{Unit as CodeUnit}
use Rattle.wc_names.specs.{IsUnit, numbered_type, onto}
use Rattle.wc_names.specs.declared.declared_type.DeclaredType.{DeclaredType}
use Rattle.wc_names.specs.declared.declared_type.DeclaredType.TheVariants as numbered
use Rattle.wc_view_changes.specs.ChangeReport.{Found, block_text, found_from, initial_of, kind_text, pass_text, path_text, unit_of_type}
use Rattle.wc_view_changes.specs.Shown.{Declared, Shown, names_of, paths_of, seen, shown_all, shown_by, shown_in}
use Rattle.wc_view_changes.specs.declared.describing.Pass.{Pass}

-- the unit of that number among a source's units, with those before it, newest first
pub record IsAt (source : Source) (number : ℕ) (before : List CodeUnit) (unit : CodeUnit) : Type 0 where
  pub following : List CodeUnit
  pub whole : onto before (unit ∷ following) ≡ source.units.items
  pub counted : number ≡ length before

-- the unit of that number in the other text, or neither
abbrev pub IsSide : Text → Option ℕ → Option Scope → Type 0
IsSide text unit side = MatchOption unit (IsNone side) (λ number. IsSomeAnd side (IsUnit text number))

abbrev pub numbered_side : Option Scope → Name → Option DeclaredType
numbered_side side name = option_and_then (λ scope. option_and_then (numbered_type scope.before) (type_of scope name)) side

-- the unit to which a name leads from there, if it is an instance of a block of the text
abbrev pub side_after : Option Scope → Name → Option Scope
side_after side name = option_and_then (λ scope. unit_of_type scope.before (type_of scope name)) side

-- the number of a block of the text, if a type is one
abbrev pub unit_numbered : Option DeclaredType → Option ℕ
unit_numbered (Some (numbered.Block number)) = Some number
unit_numbered type = None

-- what names lead to from there: as a place, and with its type
abbrev pub side_lead : Option Scope → List Name → Option Lead
side_lead side names = option_and_then (λ scope. lead_from names scope.before scope.unit) side

abbrev pub side_found : Option Scope → List Name → Option Found
side_found side names = option_and_then (found_from names) side

-- the first value that is written after a name there
abbrev pub side_initial : Option Scope → Name → Option Initial
side_initial side name = option_and_then (λ scope. initial_of scope.unit name) side

-- what has a type by its number in the other text, if that has the block
abbrev pub found_numbered : Text → Option Initial → DeclaredType → Option Found
found_numbered text initial (numbered.Elementary kind) = Some (record { type = kind_text kind; has_line = true; first = Some (first_content kind initial) })
found_numbered text initial (numbered.Standard block) = Some (record { type = block_text block; has_line = true; first = None })
found_numbered text initial (numbered.Block number) = option_map (λ unit. record { type = unit.spelled; has_line = false; first = None }) (slice_get text number)

-- a type by its number is one of what has a line
abbrev pub line_numbered : Option DeclaredType → Bool
line_numbered None = false
line_numbered (Some (numbered.Block number)) = false
line_numbered type = true

-- a variable of the unit leads to the same as in the other text
abbrev pub kept_between : Option Scope → Scope → Shown → Bool
kept_between side scope s = list_all (λ path. same_lead (side_lead side path) (lead_from path scope.before scope.unit)) (paths_of s)

-- the line of a variable of the unit, if the names so far are written like this
abbrev pub line_between : Pass → Option Scope → Scope → List ℕ → Shown → List ℕ
line_between pass side scope prefix s = pass_text pass (kept_between side scope s) (prefix ++ path_text s) s.shape (side_found side (names_of s))

-- the lines of what declared names of the unit add
abbrev pub lines_between : Pass → Option Scope → List CodeUnit → CodeUnit → List ℕ → List Declared → List ℕ
lines_between pass side before unit prefix vs = flat_map (line_between pass side (seen before unit) prefix) (shown_all (shown_in before) (seen before unit) vs)

-- the lines of one declared name
abbrev pub variable_lines : Pass → Option Scope → List CodeUnit → CodeUnit → List ℕ → Declared → List ℕ
variable_lines pass side before unit prefix v = flat_map (line_between pass side (seen before unit) prefix) (shown_by (shown_in before) v (type_of (seen before unit) (name_of v.name)))
