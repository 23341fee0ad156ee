-- What a writer has taken of a text when it fails.
use Rattle.std.specs.Prelude.{◌≡◌, ℕ, ◌-◌, ◌^◌, ◌<◌, ◌⊎◌, List, ◌++◌, length, Option}
use Rattle.std.specs.Io.KnownBytes.{Appends}

-- its failed calls are more than they were, or as many as can be counted
abbrev pub HasFailedSince : ℕ → ℕ → Type 0
HasFailedSince old new = (old < new) ⊎ (new ≡ 2 ^ 64 - 1)

-- it has taken a prefix of the text, and not all of it
pub record TakesPrefix (old new : Option (List ℕ)) (text : List ℕ) : Type 0 where
  pub prefix : List ℕ
  pub rest : List ℕ
  pub cut : text ≡ prefix ++ rest
  pub short : 0 < length rest
  pub taken : Appends old new prefix
