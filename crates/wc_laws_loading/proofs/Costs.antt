-- A text has exactly one answer of the last pass: whether a unit is too long, and which is the first.
use Rattle.wc_model.proofs.Common.{◌≡◌, ℕ, ◌≤◌, ◌<◌, List, [], ◌∷◌, length, Option, Some, None, ◌⊎◌, inl, inr, refl, sym, ◌∙◌, arith, leb_tells}
use Rattle.wc_laws_language.proofs.Longest.{Found, WorstFrom, best_path, best_path_is_worst, longest_of_worst}
use Rattle.wc_model.specs.Language.Checks.{Refusal, Position}
use Rattle.wc_model.specs.Definitions.{MOST_STEPS, FirstTooLong, IsShortEnough, IsTooLong, Onward, IsLongest, IsPath, Scope, ProgramUnit, IsWorstPath}

-- a unit that is too long is not short enough
pub not_both : (position : Position ProgramUnit) → IsTooLong position → IsShortEnough position → ⊥
not_both position long short = let most = short long.0 long.1 in let more = long.2 in omega (arith, most, more)

-- the last pass has one answer
pub one_cost : (positions : List (Position ProgramUnit)) (refusal other : Option Refusal) → FirstTooLong positions refusal → FirstTooLong positions other → refusal ≡ other
one_cost [] refusal other a b = a ∙ sym b
one_cost (position ∷ positions) refusal other (inl a) (inl b) = a.1 ∙ sym b.1
one_cost (position ∷ positions) refusal other (inl a) (inr b) = absurd (not_both position a.0 b.0)
one_cost (position ∷ positions) refusal other (inr a) (inl b) = absurd (not_both position b.0 a.0)
one_cost (position ∷ positions) refusal other (inr a) (inr b) = one_cost positions refusal other a.1 b.1

-- the scope of a unit among those of its text
abbrev pub scope_at : Position ProgramUnit → Scope
scope_at position = record { before = position.before; unit = position.item }

-- a unit whose longest path is known is too long or short enough
by_longest : (position : Position ProgramUnit) (n : ℕ) → IsLongest (scope_at position) n → (n ≤ MOST_STEPS) ⊎ (MOST_STEPS < n) → IsTooLong position ⊎ IsShortEnough position
by_longest position n longest (inl few) = inr (λ path is. let most = longest.greatest path is in omega (arith, few, most))
by_longest position n longest (inr many) = inl (longest.path, longest.is_path, let e = longest.reached in omega (arith, many, e))

-- a number is at most another, or above it
at_most_or_above : (m n : ℕ) → (m ≤ n) ⊎ (n < m)
at_most_or_above m n = elim (leb_tells m n) [ inl reports ↦ inl reports.1 | inr reports ↦ inr reports.1 ]

-- by whether it has a path
by_found : (position : Position ProgramUnit) (found : Found) → WorstFrom (λ way. IsPath (scope_at position)) (λ way. IsWorstPath (scope_at position)) Onward found → IsTooLong position ⊎ IsShortEnough position
by_found position (Some path) worst = by_longest position (length path) (longest_of_worst (scope_at position) path worst.0) (at_most_or_above (length path) MOST_STEPS)
by_found position None none = inr (λ path is. absurd (none path is))

-- a unit is too long or short enough
pub validated_unit : (position : Position ProgramUnit) → IsTooLong position ⊎ IsShortEnough position
validated_unit position = by_found position (best_path (scope_at position)) (best_path_is_worst (scope_at position))

-- after a unit that is short enough the rest decides
pub cost_after : (position : Position ProgramUnit) (positions : List (Position ProgramUnit)) → IsTooLong position ⊎ IsShortEnough position
    → ((refusal : Option Refusal) × FirstTooLong positions refusal) → (refusal : Option Refusal) × FirstTooLong (position ∷ positions) refusal
cost_after position positions (inl long) rest = (Some (record { number = 411; line = position.item.line }), inl (long, refl))
cost_after position positions (inr short) rest = (rest.0, inr (short, rest.1))

-- the last pass has an answer
pub cost_is : (positions : List (Position ProgramUnit)) → (refusal : Option Refusal) × FirstTooLong positions refusal
cost_is [] = (None, refl)
cost_is (position ∷ positions) = cost_after position positions (validated_unit position) (cost_is positions)
