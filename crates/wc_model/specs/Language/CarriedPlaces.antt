-- By numbers: the place of the old text whose value a place of the new text keeps at a change. (The profile's own.)
use Rattle.std.specs.Prelude.{ℕ, List, [], ◌∷◌, reverse, Option, None, option_and_then, slice_get, if◌then◌else◌}
use Rattle.wc_model.specs.Language.Carried.{Lead, direct_lead, keeps, lead_from, same_lead}
use Rattle.wc_model.specs.Language.Frames.{frame_of, place_number}
use Rattle.wc_model.specs.Language.Scopes.{Scope}
use Rattle.wc_model.specs.Language.Store.{Location, Direct, Path, Content, program_frame}
use Rattle.wc_model.specs.Language.Tree.{ProgramUnit, Text}

-- the frame of a text's program, when the program comes first and the units before it newest first
abbrev pub frame_of_reversed : List ProgramUnit → List (Location × Content)
frame_of_reversed [] = []
frame_of_reversed (program ∷ before) = program_frame before program

abbrev pub frame_of_text : Text → List (Location × Content)
frame_of_text text = frame_of_reversed (reverse text)

-- the number in the old frame of a place of the new frame, if the place keeps its value
abbrev pub number_if_kept : Text → Text → Location × Content → Option ℕ
number_if_kept old new entry = if keeps old new entry.0 then place_number (frame_of_text old) entry.0 else None

-- the number in the old frame of the place whose value the place with this number in the new frame keeps
abbrev pub carried_number : Text → Text → ℕ → Option ℕ
carried_number old new n = option_and_then (number_if_kept old new) (slice_get (frame_of_text new) n)

-- the same for two units: what a place of a unit is, from the unit's own body
abbrev pub lead_within : Scope → Location → Option Lead
lead_within scope (Direct v) = direct_lead v
lead_within scope (Path names) = lead_from names scope.before scope.unit

-- the number in the old unit's frame of a place of the new unit's, if the place keeps its value
abbrev pub number_if_kept_within : Scope → Scope → Location × Content → Option ℕ
number_if_kept_within old new entry = if same_lead (lead_within old entry.0) (lead_within new entry.0) then place_number (frame_of old) entry.0 else None

abbrev pub carried_within : Scope → Scope → ℕ → Option ℕ
carried_within old new n = option_and_then (number_if_kept_within old new) (slice_get (frame_of new) n)
