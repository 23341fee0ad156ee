use Rattle.std.proofs.Common.{List, Some, None, ◌⊎◌, inl, inr}
use Rattle.wc_laws_language.proofs.Longest.{Found, WorstFrom, best_path, best_path_is_worst}
use Rattle.wc_laws_language.proofs.each_unit_has_a_worst_path.Goals as goal
use Rattle.wc_model.specs.Definitions.{Onward, IsPath, Scope, Item, IsWorstPath}

-- by whether one is found
by_found : (scope : Scope) (found : Found) → WorstFrom (λ way. IsPath scope) (λ way. IsWorstPath scope) Onward found → ((path : List Item) × IsWorstPath scope path) ⊎ ((path : List Item) → IsPath scope path → ⊥)
by_found scope (Some path) w = inl (path, w.0)
by_found scope None w = inr w

pub returns : goal.returns
returns c = λ scope. by_found scope (best_path scope) (best_path_is_worst scope)
