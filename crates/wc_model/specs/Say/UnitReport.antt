-- What a check writes: for each unit its name and its bound, the length of its longest path, and if they are asked for the
-- lines of its worst path. (The form is the profile's own.)
use Rattle.std.specs.Prelude.{◌≡◌, ℕ, Bool, true, false, List, [], ◌∷◌, ◌++◌, codes, decimal, IfSome, slice_get}
use Rattle.wc_model.specs.Language.Checks.{Position, positions_of}
use Rattle.wc_model.specs.Language.Paths.{IsLongest}
use Rattle.wc_model.specs.Language.Tree.{ProgramUnit, Text}
use Rattle.wc_model.specs.Language.WorstPaths.{AreWorstLines}

-- the bound of a unit after those before it
abbrev pub IsBoundOf : Position ProgramUnit → ℕ → Type 0
IsBoundOf position bound = IsLongest (record { before = position.before; unit = position.item }) bound

-- the bound of the unit at this place of the text, counted from 0
abbrev pub IsBoundAt : Text → ℕ → ℕ → Type 0
IsBoundAt text place bound = IfSome (slice_get (positions_of text) place) (λ position. IsBoundOf position bound)

-- the line of a unit: its name as it is spelled, and its bound
abbrev pub unit_line : List ℕ → ℕ → List ℕ
unit_line name bound = codes "unit " ++ name ++ codes " cost " ++ decimal bound ++ (10 ∷ [])

-- the numbers of lines, each after a space
abbrev pub spaced_lines : List ℕ → List ℕ
spaced_lines [] = []
spaced_lines (line ∷ lines) = 32 ∷ (decimal line ++ spaced_lines lines)

-- the line of a worst path
abbrev pub path_line : List ℕ → List ℕ
path_line lines = codes "path" ++ spaced_lines lines ++ (10 ∷ [])

-- if paths are asked for, the line of the unit's worst path
abbrev pub IsPathPart : Bool → Position ProgramUnit → List ℕ → Type 0
IsPathPart false position part = part ≡ []
IsPathPart true position part = (lines : List ℕ) × AreWorstLines (record { before = position.before; unit = position.item }) lines × (part ≡ path_line lines)

-- the lines of units, in the text's order: each unit's own, and that of its path
abbrev pub AreUnitLines : Bool → List (Position ProgramUnit) → List ℕ → Type 0
AreUnitLines paths [] lines = lines ≡ []
AreUnitLines paths (position ∷ positions) lines =
    (bound : ℕ) × (part others : List ℕ) × IsBoundOf position bound × IsPathPart paths position part × AreUnitLines paths positions others
    × (lines ≡ (unit_line position.item.spelled bound ++ part) ++ others)

-- what a check of a text writes, with paths or without
abbrev pub IsUnitReport : Bool → Text → List ℕ → Type 0
IsUnitReport paths text lines = AreUnitLines paths (positions_of text) lines
