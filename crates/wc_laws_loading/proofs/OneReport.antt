-- A text that is loaded has one report.
use Rattle.wc_model.proofs.Common.{Bool, true, false, List, [], ◌∷◌, ◌++◌, Some, None, refl, ap, ◌∙◌, AllByRecursion}
use Rattle.wc_laws_language.proofs.Longest.{Found, WorstFrom, best_path, best_path_is_worst}
use Rattle.wc_laws_language.proofs.OneBound.{one_bound}
use Rattle.wc_laws_language.proofs.UnitBounds.{bounds_of_loaded}
use Rattle.wc_laws_language.specs.{HasABound, UnitsNestSimply, NestsSimply}
use Rattle.wc_laws_loading.proofs.OneWorstPath.{one_list}
use Rattle.wc_laws_loading.specs.Laws.{HasOne, EachUnitHasOneWorstPath, HasOneWorstPath, OneReport}
use Rattle.wc_laws_language.proofs.Spelled.{spelled_text_nests}
use Rattle.wc_model.specs.Language.Checks.{Position, positions_after}
use Rattle.wc_model.specs.Definitions.{Onward, IsPath, Scope, Item, own_lines, ProgramUnit, AreWorstLines, IsWorstPath, AreUnitLines, IsPathPart, path_line, unit_line}

-- a unit that has a path has a worst one, and its lines alone
lines_there : (scope : Scope) → NestsSimply scope.unit.body → (path : List Item) → IsPath scope path → (found : Found)
    → WorstFrom (λ way. IsPath scope) (λ way. IsWorstPath scope) Onward found → HasOne (AreWorstLines scope)
lines_there scope nests path is (Some best) worst = record {
  it = own_lines best;
  holds = (best, worst.0, refl);
  alone = λ other lists. one_list scope nests other (own_lines best) lists (best, worst.0, refl);
}
lines_there scope nests path is None none = absurd (none path is)

-- the units at these places
one_each : (before units : List ProgramUnit) → UnitsNestSimply units → AllByRecursion HasABound (positions_after before units) → AllByRecursion HasOneWorstPath (positions_after before units)
one_each before [] nests bounds = tt
one_each before (unit ∷ units) nests bounds =
    let scope : Scope = record { before = before; unit = unit } in
    let longest = bounds.0.1 in
    (lines_there scope nests.0 longest.path longest.is_path (best_path scope) (best_path_is_worst scope), one_each (unit ∷ before) units nests.1 bounds.1)

pub each_has_one : EachUnitHasOneWorstPath
each_has_one bytes text loaded = one_each [] text (spelled_text_nests _ text loaded.read.spelled) (bounds_of_loaded bytes text loaded)

-- the part of a unit's path
one_part : (paths : Bool) (position : Position ProgramUnit) → HasOneWorstPath position → HasOne (IsPathPart paths position)
one_part false position one = record { it = []; holds = refl; alone = λ other is. is }
one_part true position one = record {
  it = path_line one.it;
  holds = (one.it, one.holds, refl);
  alone = λ other is. is.2 ∙ ap path_line (one.alone is.0 is.1);
}

-- the lines of units
one_of_units : (paths : Bool) (positions : List (Position ProgramUnit)) → AllByRecursion HasABound positions → AllByRecursion HasOneWorstPath positions → HasOne (AreUnitLines paths positions)
one_of_units paths [] bounds ones = record { it = []; holds = refl; alone = λ other is. is }
one_of_units paths (position ∷ positions) bounds ones =
    let part = one_part paths position ones.0 in
    let others = one_of_units paths positions bounds.1 ones.1 in
    let bound = bounds.0.0 in
    record {
      it = (unit_line position.item.spelled bound ++ part.it) ++ others.it;
      holds = (bound, part.it, others.it, bounds.0.1, part.holds, others.holds, refl);
      alone = λ other is.
          let same = one_bound (record { before = position.before; unit = position.item }) is.0 bound is.3 bounds.0.1 in
          let parts = part.alone is.1 is.4 in
          let rest = others.alone is.2 is.5 in
          is.6 ∙ (λ i. (unit_line position.item.spelled (same i) ++ parts i) ++ rest i);
    }

pub one_report : OneReport
one_report bytes text paths loaded =
    one_of_units paths (positions_after [] text) (bounds_of_loaded bytes text loaded) (each_has_one bytes text loaded)
