-- The rules that a pass asks of a text, in text order, and the first that is broken. (The order is the profile's own.)
use Rattle.std.specs.Prelude.{◌≡◌, ℕ, Bool, true, false, List, [], ◌∷◌, ◌++◌, Option, Some, None, if◌then◌else◌}
use Rattle.std.specs.List.{list_all}

-- a rule by its number, asked at a line
pub record Check : Type 0 where
  pub number : ℕ
  pub line : ℕ
  pub holds : Bool

-- a rule, asked at a line
abbrev pub asks : ℕ → ℕ → Bool → Check
asks number line holds = record { number = number; line = line; holds = holds }

-- the number and the line of a broken rule
pub record Refusal : Type 0 where
  pub number : ℕ
  pub line : ℕ

-- the first rule of the list that is broken
abbrev pub first_broken : List Check → Option Refusal
first_broken [] = None
first_broken (check ∷ checks) = if check.holds then first_broken checks else Some (record { number = check.number; line = check.line })

-- what it means to be the first: the rule is among those asked, it is broken, and none that is asked before it is
pub record IsFirstBroken (checks : List Check) (refusal : Refusal) : Type 0 where
  pub before : List Check
  pub broken : Check
  pub following : List Check
  pub asked : checks ≡ before ++ broken ∷ following
  pub fails : broken.holds ≡ false
  pub is_it : refusal ≡ record { number = broken.number; line = broken.line }
  pub none_before : list_all (λ check. check.holds) before ≡ true

-- each item of a list with those before it, newest first, and those after it
pub record Position (X : Type 0) : Type 0 where
  pub before : List X
  pub item : X
  pub following : List X

abbrev pub positions_after : {X : Type 0} → List X → List X → List (Position X)
positions_after before [] = []
positions_after before (x ∷ xs) = record { before = before; item = x; following = xs } ∷ positions_after (x ∷ before) xs

abbrev pub positions_of : {X : Type 0} → List X → List (Position X)
positions_of xs = positions_after [] xs
