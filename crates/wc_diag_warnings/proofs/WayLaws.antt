-- What is computed of the paths to an event is so. (No rule of the language.)
use Rattle.wc_model.proofs.Common.{◌≡◌, Bool, true, not, ◌&&◌, ◌||◌, List, [], ◌∷◌, ◌++◌, inl, inr, refl, ap, sym, ◌∙◌, append_assoc, and_parts, not-true, or_cases, or_right, list_any}
use Rattle.wc_model.specs.Language.Names.{Name}
use Rattle.wc_diag_warnings.specs.{Action, Labels, BodyEvent, IsWay, at_start, from_mark, onward, by_jump, EdgesAreThere, Passed, comes_by_jump, comes_down, action_jumps, action_leaves, is_on, passed}

module _ (starts : Bool) (marks : BodyEvent → Bool) where
  -- each of these events that is on has a path to it
  abbrev AllEdges : List BodyEvent → Type 0
  AllEdges [] = Unit {0}
  AllEdges (e ∷ before) = (is_on starts marks before e ≡ true → IsWay starts marks before e) × AllEdges before

  -- a jump that is on, among these followed by others
  abbrev jumps_here : Name → Passed → Bool
  jumps_here name j = j.on && action_jumps j.event.action name

  jumped : (name : Name) (all between before : List BodyEvent) (e : BodyEvent) → all ≡ between ++ before → AllEdges before → e.action ≡ Labels name →
      list_any (jumps_here name) (passed starts marks before) ≡ true → IsWay starts marks all e
  jumped name all between [] e whole edges at found = cc
  jumped name all between (jump ∷ before) e whole edges at found =
      let here = is_on starts marks before jump && action_jumps jump.action name in
      let others = list_any (jumps_here name) (passed starts marks before) in
      elim (or_cases here others found) [
        | inl h ↦ let both = and_parts (is_on starts marks before jump) (action_jumps jump.action name) h in
            by_jump all between before jump e name whole (edges.0 both.0) both.1 at
        | inr h ↦ jumped name all (between ++ jump ∷ []) before e (whole ∙ sym (append_assoc between (jump ∷ []) before)) edges.1 at h
      ]

  -- a path by a jump
  came_by_jump : (action : Action) (before : List BodyEvent) (e : BodyEvent) → AllEdges before → e.action ≡ action → comes_by_jump (passed starts marks before) action ≡ true → IsWay starts marks before e
  came_by_jump (Labels name) before e edges at found = jumped name before [] before e refl edges at found
  came_by_jump action before e edges at found = cc

  -- a path from right above
  came_down : (before : List BodyEvent) (e : BodyEvent) → AllEdges before → comes_down starts marks (passed starts marks before) ≡ true → IsWay starts marks before e
  came_down [] e edges found = at_start e found
  came_down (last ∷ before) e edges found =
      let both = and_parts (not (action_leaves last.action)) (is_on starts marks before last || marks last) found in
      elim (or_cases (is_on starts marks before last) (marks last) both.1) [
        | inl h ↦ onward before last e (edges.0 h) (not-true (action_leaves last.action) both.0)
        | inr h ↦ from_mark before last e h (not-true (action_leaves last.action) both.0)
      ]

  pub came : (before : List BodyEvent) (e : BodyEvent) → AllEdges before → is_on starts marks before e ≡ true → IsWay starts marks before e
  came before e edges found =
      elim (or_cases (comes_down starts marks (passed starts marks before)) (comes_by_jump (passed starts marks before) e.action) found) [
        | inl h ↦ came_down before e edges h
        | inr h ↦ came_by_jump e.action before e edges refl h
      ]

  pub all_edges : (before : List BodyEvent) → AllEdges before
  all_edges [] = tt
  all_edges (e ∷ before) = (came before e (all_edges before), all_edges before)

  -- a jump that is on is found, whatever follows it
  jump_found : (name : Name) (between before : List BodyEvent) (jump : BodyEvent) → is_on starts marks before jump ≡ true → action_jumps jump.action name ≡ true →
      list_any (jumps_here name) (passed starts marks (between ++ jump ∷ before)) ≡ true
  jump_found name [] before jump on jumps = cc
  jump_found name (e ∷ between) before jump on jumps =
      or_right (is_on starts marks (between ++ jump ∷ before) e && action_jumps e.action name) (list_any (jumps_here name) (passed starts marks (between ++ jump ∷ before)))
      (jump_found name between before jump on jumps)

  -- a path is found
  pub leads : {before : List BodyEvent} {e : BodyEvent} → IsWay starts marks before e → is_on starts marks before e ≡ true
  leads (at_start e s) = cc
  leads (from_mark before last e m l) = let here = or_right (is_on starts marks before last) (marks last) m in cc
  leads (onward before last e w l) = let here = leads w in cc
  leads (by_jump all between before jump e name whole w jumps at) =
      or_right (comes_down starts marks (passed starts marks all)) (comes_by_jump (passed starts marks all) e.action)
      (ap (comes_by_jump (passed starts marks all)) at ∙ ap (λ es. list_any (jumps_here name) (passed starts marks es)) whole ∙ jump_found name between before jump (leads w) jumps)

pub edges_there : EdgesAreThere
edges_there starts marks before e = (came starts marks before e (all_edges starts marks before), λ w. leads starts marks w)
