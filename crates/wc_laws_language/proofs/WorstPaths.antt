-- Units that give no output out have the worst paths that they had, and a check prints of them what it printed.
use Rattle.wc_model.proofs.Common.{◌≡◌, ℕ, Bool, true, false, List, [], ◌∷◌, Some, refl, sym, ap, subst, ◌∙◌, ◌↔◌}
use Rattle.wc_model.specs.Language.Checks.{Position, positions_after}
use Rattle.wc_model.specs.Definitions.{IsNestedPath, MayPass, Onward, Way, arriving_way, Scope, Item, Alone, End, Lines, Nested, Plain, ProgramUnit, Text, AreWorstLines, ChoosesWorst, IsWorstFrom, IsWorstPath, AreUnitLines, IsPathPart, IsUnitReport}
use Rattle.wc_laws_language.proofs.PathsBefore.{BlockPaths, same_block_paths, same_lines, same_longest, same_may_step}
use Rattle.wc_laws_language.specs.{GivesNothingOut, UnitsGiveNothingOut, IsBlockPathBefore, AreUnitLinesBefore, AreWorstLinesBefore, IsPathPartBefore, IsUnitReportBefore, IsWorstFromBefore, IsWorstPathBefore}

-- through the lines that are left
same_worst : (block_path : BlockPaths) (scope : Scope) (lines : Lines) → GivesNothingOut lines → IsWorstFrom block_path scope lines ≡ IsWorstFromBefore block_path scope lines
same_worst block_path scope End g = refl
same_worst block_path scope (Alone word rest) g = λ i way path. same_worst block_path scope rest g i (arriving_way (Some word) way) path
same_worst block_path scope (Plain word line step rest) g =
    λ i way path. ChoosesWorst (MayPass (same_may_step block_path scope line step g.0 i) (arriving_way word way)) (same_lines block_path scope rest g.1 i) (same_worst block_path scope rest g.1 i) path
same_worst block_path scope (Nested word line operator operand inside close rest) g =
    λ i way path. ChoosesWorst (MayPass (IsNestedPath line close (same_lines block_path scope inside g.0 i Onward)) (arriving_way word way)) (same_lines block_path scope rest g.1 i)
    (same_worst block_path scope rest g.1 i) path

-- of a unit
same_unit_worst : (scope : Scope) → UnitsGiveNothingOut (scope.unit ∷ scope.before) → IsWorstPath scope ≡ IsWorstPathBefore scope
same_unit_worst scope g =
    ap (λ (b : BlockPaths). IsWorstFrom b scope scope.unit.body Onward) (same_block_paths scope.before g.1)
    ∙ ap (λ (f : Way → List Item → Type 0). f Onward) (same_worst (IsBlockPathBefore scope.before) scope scope.unit.body g.0)

worst_for_worst : (scope : Scope) → UnitsGiveNothingOut (scope.unit ∷ scope.before) → (path : List Item) → IsWorstPath scope path ↔ IsWorstPathBefore scope path
worst_for_worst scope g path =
    let same = same_unit_worst scope g in (
      λ h. subst (λ (is : List Item → Type 0). is path) same h,
      λ h. subst (λ (is : List Item → Type 0). is path) (sym same) h,
    )

-- the lines of the body on it
lines_for_lines : (scope : Scope) → UnitsGiveNothingOut (scope.unit ∷ scope.before) → (lines : List ℕ) → AreWorstLines scope lines ↔ AreWorstLinesBefore scope lines
lines_for_lines scope g lines = (
  λ h. (h.0, (worst_for_worst scope g h.0).0 h.1, h.2),
  λ h. (h.0, (worst_for_worst scope g h.0).1 h.1, h.2),
)

pub same_worst_path : (scope : Scope) → UnitsGiveNothingOut (scope.unit ∷ scope.before) →
    ((path : List Item) → IsWorstPath scope path ↔ IsWorstPathBefore scope path) × ((lines : List ℕ) → AreWorstLines scope lines ↔ AreWorstLinesBefore scope lines)
same_worst_path scope g = (worst_for_worst scope g, lines_for_lines scope g)

-- the printed line of a worst path
same_part : (paths : Bool) (position : Position ProgramUnit) → UnitsGiveNothingOut (position.item ∷ position.before) → (part : List ℕ) → IsPathPart paths position part ↔ IsPathPartBefore paths position part
same_part false position g part = (λ h. h, λ h. h)
same_part true position g part =
    let same = lines_for_lines (record { before = position.before; unit = position.item }) g in (
      λ h. (h.0, (same h.0).0 h.1, h.2),
      λ h. (h.0, (same h.0).1 h.1, h.2),
    )

-- the printed lines of units
same_unit_lines : (paths : Bool) (before units : List ProgramUnit) → UnitsGiveNothingOut before → UnitsGiveNothingOut units → (lines : List ℕ)
    → AreUnitLines paths (positions_after before units) lines ↔ AreUnitLinesBefore paths (positions_after before units) lines
same_unit_lines paths before [] b g lines = (λ h. h, λ h. h)
same_unit_lines paths before (unit ∷ units) b g lines =
    let longest = same_longest (record { before = before; unit = unit }) (g.0, b) in
    let part = same_part paths (record { before = before; item = unit; following = units }) (g.0, b) in
    let others = same_unit_lines paths (unit ∷ before) units (g.0, b) g.1 in (
      λ h. (h.0, h.1, h.2, (longest h.0).0 h.3, (part h.1).0 h.4, (others h.2).0 h.5, h.6),
      λ h. (h.0, h.1, h.2, (longest h.0).1 h.3, (part h.1).1 h.4, (others h.2).1 h.5, h.6),
    )

pub same_report : (paths : Bool) (text : Text) → UnitsGiveNothingOut text → (report : List ℕ) → IsUnitReport paths text report ↔ IsUnitReportBefore paths text report
same_report paths text g report = same_unit_lines paths [] text tt g report
