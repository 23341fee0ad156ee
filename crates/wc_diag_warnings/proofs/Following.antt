-- One event more of a body. (No rule of the language.)
use Rattle.std.proofs.Common.{◌≡◌, ℕ, Bool, false, ◌&&◌, ◌||◌, not, List, ◌∷◌, Option, None, Some, unwrap_or, Bor, refl, ap, ◌∙◌, arith}
use Rattle.wc_model.proofs.Common.{bytes_eq-Decides, option_map_or}
use Rattle.indexmap.specs.IndexMap.{IndexMap, Updates, get}
use Rattle.wc_model.specs.Definitions.{same_name, Name}
use Rattle.wc_model.specs.declared.operator.Condition.{Condition}
use Rattle.wc_names.specs.Keys.{name_of_key, same_key}
use Rattle.wc_names.specs.declared.key.Key.{Key}
use Rattle.wc_diag_warnings.specs.{action_jumps, action_leaves, is_on, Source, AreFrom, IsFollowed, is_from, leads, marks, starts, BodyEvent, action_view}
use Rattle.wc_diag_warnings.specs.declared.edges.Ahead.{Ahead}
use Rattle.wc_diag_warnings.specs.declared.events.Action.{Action as CodeAction}
use Rattle.wc_diag_warnings.specs.declared.events.Action.TheVariants.{Jump}
use Rattle.wc_diag_warnings.specs.declared.edges.PathSources.{PathSources}

-- the paths to an event go on to the next one, and to the label to which it jumps
pub followed_more : (before : List BodyEvent) (e : BodyEvent) (old new : Ahead) (paths : PathSources) → IsFollowed before old → AreFrom paths before e →
    ((source : Source) → is_from new.next source ≡ (not (action_leaves e.action) && (is_from paths source || marks source e))) →
    ((source : Source) (key : Key) → leads new.labels (name_of_key key) source ≡ ((is_from paths source && action_jumps e.action (name_of_key key)) || leads old.labels (name_of_key key) source)) →
    IsFollowed (e ∷ before) new
followed_more before e old new paths so_far from goes led = record {
  next = λ source. goes source ∙ ap (λ b. not (action_leaves e.action) && (b || marks source e)) (from source);
  labels = λ source key.
      let jumps = action_jumps e.action (name_of_key key) in
      led source key ∙ ap (λ b. (b && jumps) || leads old.labels (name_of_key key) source) (from source)
      ∙ ap (λ b. (is_on (starts source) (marks source) before e && jumps) || b) (so_far.labels source key);
}

-- what is no jump leads to no label
pub not_led : (action : CodeAction) → ((condition : Condition) (label : Bor (List ℕ)) → action ≡ Jump condition label → ⊥) → (name : Name) (from led : Bool) → led ≡ ((from && action_jumps (action_view action) name) || led)
not_led (Jump condition label) other name from led = absurd (other condition label refl)
not_led action other name from led = grind arith

-- paths that are kept, or none
kept_is : (none : PathSources) (source : Source) (kept : Option PathSources) → is_from none source ≡ false → is_from (unwrap_or kept none) source ≡ option_map_or (λ paths. is_from paths source) kept false
kept_is none source None e = e
kept_is none source (Some paths) e = refl

-- more paths are kept for a label
pub led_more : {S : Type 0} (old new : IndexMap Key PathSources S) (label : Key) (none kept paths all : PathSources) → Updates same_key old new label (Some all) →
    ((source : Source) → is_from none source ≡ false) → kept ≡ unwrap_or (get same_key old label) none → ((source : Source) → is_from all source ≡ (is_from paths source || is_from kept source)) →
    (source : Source) (other : Key) → leads new (name_of_key other) source ≡ ((is_from paths source && same_name (name_of_key label) (name_of_key other)) || leads old (name_of_key other) source)
led_more old new label none kept paths all update empty had both source other =
    let found = update.0 other in
    let was = ap (λ p. is_from p source) had ∙ kept_is none source (get same_key old label) (empty source) in
    grind (arith, both source, bytes_eq-Decides (name_of_key label) (name_of_key other), bytes_eq-Decides (name_of_key other) (name_of_key label))
