-- Short ways to write the texts and tokens of examples.
use Rattle.std.specs.Prelude.{ℕ, List, ◌∷◌, ◌++◌}
use Rattle.wc_model.specs.Definitions.{Shape, Token}

-- a token by its parts
abbrev pub token : Shape → List ℕ → (start line : ℕ) → Token
token shape text start line = record { shape = shape; text = text; start = start; line = line }

-- one line, a line feed, and more lines
abbrev pub lines : List ℕ → List ℕ → List ℕ
lines first more = first ++ 10 ∷ more
