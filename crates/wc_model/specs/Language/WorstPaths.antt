-- The worst path of a unit: among the longest the one that, if two paths are equally long, takes the next line. (The
-- profile's own.)
use Rattle.std.specs.Prelude.{◌≡◌, ◌≢◌, ℕ, ◌≤◌, ◌<◌, List, ◌++◌, length, Some}
use Rattle.wc_model.specs.Language.Names.{Name}
use Rattle.wc_model.specs.Language.Paths.{Way, Onward, arriving_way, EndsThere, MayStep, MayPass, Joined, IsNestedPath, IsPathFrom, IsBlockPath}
use Rattle.wc_model.specs.Language.Scopes.{Scope}
use Rattle.wc_model.specs.Language.Traces.{Item, own_lines}
use Rattle.wc_model.specs.Language.Tree.{Lines, End, Alone, Plain, Nested}

-- steps that stay with the next line
abbrev pub StaysOnward : (List Item → Way → Type 0) → List Item → Way → Type 0
StaysOnward executed items next = executed items next × (next ≡ Onward)

-- The path begins with these items and goes on as a worst one. No path from here is longer; and if it leaves the next
-- line, each path that takes it is shorter.
pub record ChoosesWorst (executed : List Item → Way → Type 0) (any worst : Way → List Item → Type 0) (path : List Item) : Type 0 where
  pub items : List Item
  pub next : Way
  pub others : List Item
  pub first : executed items next
  pub rest : worst next others
  pub whole : path ≡ items ++ others
  pub longest : (other : List Item) → Joined executed any other → length other ≤ length path
  pub next_line_first : next ≢ Onward → (other : List Item) → Joined (StaysOnward executed) any other → length other < length path

-- a worst path through the lines left
abbrev pub IsWorstFrom : (Name → List Item → Type 0) → Scope → Lines → Way → List Item → Type 0
IsWorstFrom block_path scope End way path = EndsThere way path
IsWorstFrom block_path scope (Alone word rest) way path = IsWorstFrom block_path scope rest (arriving_way (Some word) way) path
IsWorstFrom block_path scope (Plain word line step rest) way path =
    ChoosesWorst (MayPass (MayStep block_path scope line step) (arriving_way word way)) (IsPathFrom block_path scope rest) (IsWorstFrom block_path scope rest) path
IsWorstFrom block_path scope (Nested word line operator operand inside close rest) way path =
    ChoosesWorst (MayPass (IsNestedPath line close (IsPathFrom block_path scope inside Onward)) (arriving_way word way)) (IsPathFrom block_path scope rest) (IsWorstFrom block_path scope rest) path

-- the worst path of a unit's body
abbrev pub IsWorstPath : Scope → List Item → Type 0
IsWorstPath scope path = IsWorstFrom (IsBlockPath scope.before) scope scope.unit.body Onward path

-- these are the lines of the unit's own body on its worst path, in order of execution
abbrev pub AreWorstLines : Scope → List ℕ → Type 0
AreWorstLines scope lines = (path : List Item) × IsWorstPath scope path × (lines ≡ own_lines path)
