-- What a check printed of a text before outputs could be given out, kept to be compared with: the worst path of a unit is chosen
-- among the paths of `TextsBefore`, and its bound is the length of the longest of those. A check of a text that gives no output out
-- in any call still prints that. (No rule of the language.)
use Rattle.std.specs.Prelude.{◌≡◌, ℕ, Bool, true, false, List, [], ◌∷◌, ◌++◌, Some, ◌↔◌}
use Rattle.wc_model.specs.Language.Checks.{Position, positions_of}
use Rattle.wc_model.specs.Definitions.{Name, EndsThere, IsNestedPath, MayPass, Onward, Way, arriving_way, Scope, Item, own_lines, Alone, End, Lines, Nested, Plain, ProgramUnit, Text, ChoosesWorst, AreWorstLines, IsWorstPath, path_line, unit_line, IsUnitReport}
use Rattle.wc_laws_language.specs.TextsBefore.{IsBlockPathBefore, IsLongestBefore, IsPathFromBefore, MayStepBefore}
use Rattle.wc_laws_language.specs.TextLaws.{UnitsGiveNothingOut}

-- a worst path through the lines that are left
abbrev pub IsWorstFromBefore : (Name → List Item → Type 0) → Scope → Lines → Way → List Item → Type 0
IsWorstFromBefore block_path scope End way path = EndsThere way path
IsWorstFromBefore block_path scope (Alone word rest) way path = IsWorstFromBefore block_path scope rest (arriving_way (Some word) way) path
IsWorstFromBefore block_path scope (Plain word line step rest) way path =
    ChoosesWorst (MayPass (MayStepBefore block_path scope line step) (arriving_way word way)) (IsPathFromBefore block_path scope rest) (IsWorstFromBefore block_path scope rest) path
IsWorstFromBefore block_path scope (Nested word line operator operand inside close rest) way path =
    ChoosesWorst (MayPass (IsNestedPath line close (IsPathFromBefore block_path scope inside Onward)) (arriving_way word way)) (IsPathFromBefore block_path scope rest) (IsWorstFromBefore block_path scope rest) path

-- the worst path of a unit's body
abbrev pub IsWorstPathBefore : Scope → List Item → Type 0
IsWorstPathBefore scope path = IsWorstFromBefore (IsBlockPathBefore scope.before) scope scope.unit.body Onward path

-- the lines of the unit's own body on its worst path, in order of execution
abbrev pub AreWorstLinesBefore : Scope → List ℕ → Type 0
AreWorstLinesBefore scope lines = (path : List Item) × IsWorstPathBefore scope path × (lines ≡ own_lines path)

-- the printed line of a unit's worst path, if paths are asked for
abbrev pub IsPathPartBefore : Bool → Position ProgramUnit → List ℕ → Type 0
IsPathPartBefore false position part = part ≡ []
IsPathPartBefore true position part = (lines : List ℕ) × AreWorstLinesBefore (record { before = position.before; unit = position.item }) lines × (part ≡ path_line lines)

-- the printed lines of units: name and bound of each, and its worst path
abbrev pub AreUnitLinesBefore : Bool → List (Position ProgramUnit) → List ℕ → Type 0
AreUnitLinesBefore paths [] lines = lines ≡ []
AreUnitLinesBefore paths (position ∷ positions) lines =
    (bound : ℕ) × (part others : List ℕ) × IsLongestBefore (record { before = position.before; unit = position.item }) bound × IsPathPartBefore paths position part × AreUnitLinesBefore paths positions others
    × (lines ≡ (unit_line position.item.spelled bound ++ part) ++ others)

-- what a check of a text printed, with paths or without
abbrev pub IsUnitReportBefore : Bool → Text → List ℕ → Type 0
IsUnitReportBefore paths text lines = AreUnitLinesBefore paths (positions_of text) lines

-- each unit has the worst path that it had, and so the lines that are printed of it
abbrev pub AUnitHasTheWorstPathItHad : Type 0
AUnitHasTheWorstPathItHad = (scope : Scope) → UnitsGiveNothingOut (scope.unit ∷ scope.before) →
    ((path : List Item) → IsWorstPath scope path ↔ IsWorstPathBefore scope path) × ((lines : List ℕ) → AreWorstLines scope lines ↔ AreWorstLinesBefore scope lines)

-- a check prints of the whole text the bytes that it printed, with paths or without
abbrev pub ACheckPrintsWhatItPrinted : Type 0
ACheckPrintsWhatItPrinted = (paths : Bool) (text : Text) → UnitsGiveNothingOut text → (report : List ℕ) → IsUnitReport paths text report ↔ IsUnitReportBefore paths text report
