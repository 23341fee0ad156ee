-- A scan that is never stuck, and whose trace is a path, ends within the bound.
use Rattle.std.proofs.Common.{ℕ, List, [], ◌∷◌, Option, refl}
use Rattle.wc_controller.specs.Headline.{EndsWithin, ShowsOutcome}
use Rattle.wc_laws_language.proofs.Longest.{best_path, best_path_is_worst}
use Rattle.wc_laws_language.proofs.TracesArePaths.{TraceIs, program_trace_is_path}
use Rattle.wc_laws_language.proofs.UnitBounds.{path_of, longest_there}
use Rattle.wc_model.specs.Definitions.{Outcome, Done, Stuck, program_means, IsBoundOfLast, IsLongest, IsPath, Logic, result_of, with_logic, first_of_reversed, Scope, Store, ProgramUnit}
use Rattle.wc_model.specs.declared.value.Value.{Value}
use Rattle.wc_laws_language.specs.SoundnessLaws.{EndsWell}

-- by how the scan ends
by_outcome : (scope : Scope) (bound : ℕ) (first : Store) → IsLongest scope bound → (outcome : Outcome) → TraceIs (IsPath scope) outcome
    → EndsWell (λ (result : Option Value). Unit {0}) first outcome → EndsWithin bound outcome
by_outcome scope bound first longest (Done result store trace) path well = longest.greatest trace path
by_outcome scope bound first longest (Stuck reason) path well = absurd well

-- by the units, the last of which is the program
pub ends_within : (units : List ProgramUnit) (bound : ℕ) (first store : Store) (now : ℕ) → IsBoundOfLast units bound
    → EndsWell (λ (result : Option Value). Unit {0}) first (first_of_reversed units (λ before program. program_means before program now store))
    → EndsWithin bound (first_of_reversed units (λ before program. program_means before program now store))
ends_within [] bound first store now longest well = absurd longest
ends_within (program ∷ before) bound first store now longest well =
    by_outcome (record { before = before; unit = program }) bound first longest (program_means before program now store) (program_trace_is_path before program now store) well

-- what a scan that ends shows
pub shows_outcome : (first : Store) (logic : Logic) (outcome : Outcome) → EndsWell (λ (result : Option Value). Unit {0}) first outcome → ShowsOutcome logic outcome (with_logic logic (result_of logic.store outcome))
shows_outcome first logic (Done result store trace) well = (refl, refl, refl)
shows_outcome first logic (Stuck reason) well = absurd well

-- a program one of whose scans ends has a bound
pub has_bound : (units : List ProgramUnit) (first store : Store) (now : ℕ)
    → EndsWell (λ (result : Option Value). Unit {0}) first (first_of_reversed units (λ before program. program_means before program now store))
    → (n : ℕ) × IsBoundOfLast units n
has_bound [] first store now well = absurd well
has_bound (program ∷ before) first store now well =
    let scope : Scope = record { before = before; unit = program } in
    let there = path_of scope first (program_means before program now store) (program_trace_is_path before program now store) well in
    longest_there scope there.0 there.1 (best_path scope) (best_path_is_worst scope)
