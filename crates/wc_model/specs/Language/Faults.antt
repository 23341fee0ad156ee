-- The first fault of the passes after reading. (The passes and their order are the profile's own.)
use Rattle.std.specs.Prelude.{◌≡◌, ℕ, ◌<◌, ◌≤◌, List, [], ◌∷◌, Option, Some, None, length, ◌⊎◌}
use Rattle.wc_model.specs.Language.BodyRules.{text_body_checks}
use Rattle.wc_model.specs.Language.Checks.{Refusal, Position, positions_of, first_broken}
use Rattle.wc_model.specs.Language.DeclarationRules.{text_declaration_checks}
use Rattle.wc_model.specs.Language.Paths.{IsPath}
use Rattle.wc_model.specs.Language.Traces.{Item}
use Rattle.wc_model.specs.Language.Tree.{ProgramUnit, Text}

-- the first broken rule on declarations, and on bodies
abbrev pub declaration_fault : Text → Option Refusal
declaration_fault text = first_broken (text_declaration_checks text)

abbrev pub body_fault : Text → Option Refusal
body_fault text = first_broken (text_body_checks text)

-- the greatest number of steps that a unit may take
abbrev pub MOST_STEPS : ℕ
MOST_STEPS = 1000000

-- a unit has a path that is too long, or none that is
abbrev pub IsTooLong : Position ProgramUnit → Type 0
IsTooLong position = (path : List Item) × IsPath (record { before = position.before; unit = position.item }) path × (MOST_STEPS < length path)

abbrev pub IsShortEnough : Position ProgramUnit → Type 0
IsShortEnough position = (path : List Item) → IsPath (record { before = position.before; unit = position.item }) path → length path ≤ MOST_STEPS

-- 411, at the first unit with a path that is too long
abbrev pub FirstTooLong : List (Position ProgramUnit) → Option Refusal → Type 0
FirstTooLong [] refusal = refusal ≡ None
FirstTooLong (position ∷ positions) refusal =
    (IsTooLong position × (refusal ≡ Some (record { number = 411; line = position.item.line }))) ⊎ (IsShortEnough position × FirstTooLong positions refusal)

abbrev pub IsCostFault : Text → Option Refusal → Type 0
IsCostFault text refusal = FirstTooLong (positions_of text) refusal
