-- One column more of those that become one.
use Rattle.wc_model.proofs.Common.{◌≡◌, ℕ, zero, suc, ◌+◌, ◌<◌, List, [], ◌∷◌, ◌++◌, Option, Some, None, length, take, get_or, refl, sym, ap, ◌∙◌, subst, arith, append-nil, flat_map}
use Rattle.std.proofs.lemmas.List.Concat.{flat_map-append}
use Rattle.wc_view_columns.specs.Columns.{AreOf, IsOfAll}
use Rattle.wc_view_columns.specs.declared.line.Column.{Column}

-- the rows of the column at a place, and the times up to it
next_of : {X : Type 0} (R : List X → Column → Type 0) (times : List (List X)) (columns : List Column) (i : ℕ) (other : Column) → AreOf R times columns → i < length columns
    → (rows : List X) × R rows (get_or columns i other) × (take (suc i) times ≡ take i times ++ rows ∷ [])
next_of R [] [] i other are within = absurd (omega (arith, within))
next_of R [] (column ∷ columns) i other are within = absurd are
next_of R (rows ∷ times) [] i other are within = absurd are
next_of R (rows ∷ times) (column ∷ columns) zero other are within = (rows, are.0, refl)
next_of R (rows ∷ times) (column ∷ columns) (suc i) other are within =
    let next = next_of R times columns i other are.1 (omega (arith, within)) in
    (next.0, next.1, ap (λ more. rows ∷ more) next.2)

-- so the rows of one time more are those of the column
rows_on : {X : Type 0} (times : List (List X)) (i : ℕ) (rows : List X) → take (suc i) times ≡ take i times ++ rows ∷ []
    → flat_map (λ own. own) (take (i + 1) times) ≡ flat_map (λ own. own) (take i times) ++ rows
rows_on times i rows cut =
    let step : i + 1 ≡ suc i = omega arith in
    ap (λ n. flat_map (λ own. own) (take n times)) step ∙ ap (flat_map (λ own. own)) cut
    ∙ flat_map-append (λ own. own) (take i times) (rows ∷ []) ∙ ap (λ last. flat_map (λ own. own) (take i times) ++ last) (append-nil rows)

pub whole_on : {X : Type 0} (R : List X → Column → Type 0) (times : List (List X)) (columns : List Column) (i : ℕ) (other : Column) → AreOf R times columns → i < length columns
    → (all : Option Column) (both : Column) → IsOfAll R all (take i times) → (all ≡ None → both ≡ get_or columns i other)
    → ((before : Column) (earlier later : List X) → all ≡ Some before → R earlier before → R later (get_or columns i other) → R (earlier ++ later) both)
    → IsOfAll R (Some both) (take (i + 1) times)
whole_on R times columns i other are within None both none first more =
    let next = next_of R times columns i other are within in
    let rows = rows_on times i next.0 next.2 ∙ ap (λ before. flat_map (λ own. own) before ++ next.0) none in
    subst (λ r. R r both) (sym rows) (subst (λ c. R next.0 c) (sym (first refl)) next.1)
whole_on R times columns i other are within (Some before) both so_far first more =
    let next = next_of R times columns i other are within in
    subst (λ r. R r both) (sym (rows_on times i next.0 next.2)) (more before (flat_map (λ own. own) (take i times)) next.0 refl so_far next.1)

-- the times of no column more are all
pub as_many : {X : Type 0} (R : List X → Column → Type 0) (times : List (List X)) (columns : List Column) → AreOf R times columns → length times ≡ length columns
as_many R [] [] are = refl
as_many R [] (column ∷ columns) are = absurd are
as_many R (rows ∷ times) [] are = absurd are
as_many R (rows ∷ times) (column ∷ columns) are = ap suc (as_many R times columns are.1)
