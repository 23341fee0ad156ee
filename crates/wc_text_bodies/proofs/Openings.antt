-- The parentheses that are open, the innermost last in the reader and first in the tree, and the count of a body's lines.
use Rattle.wc_model.specs.Text.Positions as positions
use Rattle.std.proofs.Common.{◌≡◌, ℕ, ◌+◌, min, arith, ◌==◌, List, [], ◌∷◌, ◌++◌, length, false, refl}
use Rattle.wc_text_bodies.specs.Views.{opening_view, openings_view}
use Rattle.wc_text_bodies.specs.declared.bodies.Opening.{Opening}

-- one line more, as far as lines are counted
pub counted_more : (n k m : ℕ) → k ≡ min n 1024 → m ≡ min (k + 1) 1024 → m ≡ min (n + 1) 1024
counted_more n k m e f = omega (arith, e, f)

-- a parenthesis more
pub opened-append : (outer : List positions.Opening) (xs : List Opening) (x : Opening) → openings_view outer (xs ++ x ∷ []) ≡ opening_view x ∷ openings_view outer xs
opened-append outer [] x = refl
opened-append outer (y ∷ ys) x = opened-append (opening_view y ∷ outer) ys x

-- an innermost parenthesis, and those in which it is
pub record Innermost (openings : List positions.Opening) : Type 0 where
  pub innermost : positions.Opening
  pub outer : List positions.Opening
  pub same : openings ≡ innermost ∷ outer

-- inside a parenthesis there is an innermost
innermost_in : (o : positions.Opening) (outer : List positions.Opening) (xs : List Opening) → Innermost (openings_view (o ∷ outer) xs)
innermost_in o outer [] = record { innermost = o; outer = outer; same = refl }
innermost_in o outer (x ∷ xs) = innermost_in (opening_view x) (o ∷ outer) xs

-- if some are open, there is an innermost
pub innermost_of : (xs : List Opening) → (length xs == 0) ≡ false → Innermost (openings_view [] xs)
innermost_of [] h = cc
innermost_of (x ∷ xs) h = innermost_in (opening_view x) [] xs

-- as many are open in the tree as in the reader
pub length-opened : (outer : List positions.Opening) (xs : List Opening) → length (openings_view outer xs) ≡ length xs + length outer
length-opened outer [] = omega arith
length-opened outer (x ∷ xs) = omega (arith, length-opened (opening_view x ∷ outer) xs)
