-- Each unit of a loaded text has a bound: run alone from its own first values it is never stuck, and its trace is a path.
use Rattle.wc_model.proofs.Common.{ℕ, ◌≤◌, List, [], ◌∷◌, length, Some, None, subst, inl, inr, AllByRecursion, flat_map}
use Rattle.wc_laws_language.proofs.Longest.{Found, WorstFrom, best_path, best_path_is_worst, longest_of_worst}
use Rattle.wc_laws_language.proofs.TracesArePaths.{TraceIs, program_trace_is_path}
use Rattle.wc_laws_language.specs.{HasABound, EachLoadedUnitHasABound, UnitsNestSimply, Clean, AreClean, EndsWell}
use Rattle.wc_model.specs.Definitions.{text_body_checks, MOST_STEPS, FirstTooLong, IsShortEnough, Outcome, Done, Stuck, program_means, Onward, IsPath, IsLongest, Scope, Store, initial_store, Item, ProgramUnit, IsWorstPath}
use Rattle.wc_model.specs.Language.Checks.{Position, positions_after}
use Rattle.wc_laws_language.proofs.Programs.{Any, first_store_fits, program_ends}
use Rattle.wc_laws_language.proofs.Spelled.{spelled_text_nests}
use Rattle.wc_laws_language.proofs.Steps.{clean_first, clean_second}
use Rattle.wc_laws_language.proofs.Texts.{none_broken, rules_at}

-- an outcome that ends well has a path
pub path_of : (scope : Scope) (first : Store) (outcome : Outcome) → TraceIs (IsPath scope) outcome → EndsWell Any first outcome → (path : List Item) × IsPath scope path
path_of scope first (Done result store trace) path well = (trace, path)
path_of scope first (Stuck reason) path well = absurd well

-- a unit that has a path has a longest one
pub longest_there : (scope : Scope) (path : List Item) → IsPath scope path → (found : Found)
    → WorstFrom (λ way. IsPath scope) (λ way. IsWorstPath scope) Onward found → (n : ℕ) × IsLongest scope n
longest_there scope path is (Some best) worst = (length best, longest_of_worst scope best worst.0)
longest_there scope path is None none = absurd (none path is)

-- a clean unit after clean units has a longest path
clean_is_bounded : (before : List ProgramUnit) (unit : ProgramUnit) → AreClean (unit ∷ before) → (n : ℕ) × IsLongest (record { before = before; unit = unit }) n
clean_is_bounded before unit clean =
    let scope : Scope = record { before = before; unit = unit } in
    let first = initial_store before unit in
    let well = program_ends before unit 0 first clean (first_store_fits before unit) in
    let there = path_of scope first (program_means before unit 0 first) (program_trace_is_path before unit 0 first) well in
    longest_there scope there.0 there.1 (best_path scope) (best_path_is_worst scope)

-- a longest path is within the limit if each path is
within_limit : (position : Position ProgramUnit) (n : ℕ) → IsLongest (record { before = position.before; unit = position.item }) n → IsShortEnough position → n ≤ MOST_STEPS
within_limit position n longest short = subst (λ (m : ℕ). m ≤ MOST_STEPS) longest.reached (short longest.path longest.is_path)

-- if no unit is too long, the first is not, and no other is
none_too_long : (position : Position ProgramUnit) (positions : List (Position ProgramUnit)) → FirstTooLong (position ∷ positions) None → IsShortEnough position × FirstTooLong positions None
none_too_long position positions (inl long) = absurd (let e = long.1 in cc)
none_too_long position positions (inr short) = short

-- the units after clean ones
bounds_after : (before units : List ProgramUnit) → Clean (flat_map rules_at (positions_after before units)) → UnitsNestSimply units → AreClean before
    → FirstTooLong (positions_after before units) None → AllByRecursion HasABound (positions_after before units)
bounds_after before [] clean simple earlier short = tt
bounds_after before (unit ∷ units) clean simple earlier short =
    let position : Position ProgramUnit = record { before = before; item = unit; following = units } in
    let rest = flat_map rules_at (positions_after (unit ∷ before) units) in
    let own : AreClean (unit ∷ before) = (clean_first (rules_at position) rest clean, simple.0, earlier) in
    let bounded = clean_is_bounded before unit own in
    let costs = none_too_long position (positions_after (unit ∷ before) units) short in
    ((bounded.0, bounded.1, within_limit position bounded.0 bounded.1 costs.0), bounds_after (unit ∷ before) units (clean_second (rules_at position) rest clean) simple.1 own costs.1)

-- each unit of a loaded text has a bound
pub bounds_of_loaded : EachLoadedUnitHasABound
bounds_of_loaded bytes text loaded =
    bounds_after [] text (none_broken (text_body_checks text) loaded.bodies) (spelled_text_nests _ text loaded.read.spelled) tt loaded.costs
