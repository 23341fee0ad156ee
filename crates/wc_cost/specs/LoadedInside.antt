-- What a loaded text holds in its fields. (No rule of the language.)
use Rattle.std.specs.Prelude.{◌≡◌, ◌≤◌, ℕ, List, [], ◌∷◌, map, length}
use Rattle.wc_text_flat.specs.Contents.{frame_of_text}
use Rattle.wc_text_flat.specs.FlatPaths.{sources_of}
use Rattle.wc_text_flat.specs.Laws.{AreBoundsBelow}
use Rattle.wc_model.specs.Definitions.{first_numbers, slot_kinds, Text, text_view}
use Rattle.wc_model.specs.declared.code.Code.{Code}
use Rattle.wc_laws_language.specs.FirstNumbers.{AreFirst}
use Rattle.wc_cost.specs.LoadedTexts.{LoadedText, IsLoadedSound}
use Rattle.wc_cost.specs.PathLengths.{AreSmall}
use Rattle.wc_cost.specs.declared.units.LoweredUnit.{LoweredUnit}
use Rattle.wc_cost.specs.declared.loaded.Loaded.TheInside.{Inside as LoadedFields}

-- the codes and the bounds of lowered units
abbrev pub codes_of : List LoweredUnit → List (List Code)
codes_of units = map (λ u. u.code.items) units

abbrev pub bounds_of : List LoweredUnit → List ℕ
bounds_of units = map (λ u. u.bound) units

-- the text and its codes
abbrev pub loaded_view : LoadedFields → LoadedText
loaded_view a = record { source = a.checked.source; codes = codes_of a.units.items }

-- the lines of the flat lines are those of the units' bodies
abbrev pub AreLines : Text → List LoweredUnit → Type 0
AreLines [] [] = Unit {0}
AreLines (unit ∷ text) (lowered ∷ units) = (lowered.lines.items ≡ sources_of unit.body) × AreLines text units
AreLines [] (lowered ∷ units) = ⊥
AreLines (unit ∷ text) [] = ⊥

-- the codes are the text's, the bounds the lengths of their worst paths and not too great, and kinds and first numbers those of
-- the program's frame: few enough, and each number one that its slot may hold at first
pub record AreFieldsSound (a : LoadedFields) : Type 0 where
  pub sound : IsLoadedSound (loaded_view a)
  pub lines : AreLines (text_view a.checked.source) a.units.items
  pub bounds : AreBoundsBelow (text_view a.checked.source) (codes_of a.units.items) (bounds_of a.units.items) (length a.units.items)
  pub small : AreSmall (bounds_of a.units.items)
  pub kinds : a.kinds.items ≡ slot_kinds (frame_of_text (text_view a.checked.source))
  pub few : length a.kinds.items ≤ 4096
  pub initials : a.initials.items ≡ first_numbers (frame_of_text (text_view a.checked.source))
  pub first : AreFirst a.kinds.items a.initials.items
