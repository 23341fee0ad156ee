-- Which events a run of a body can come to, and from where: from its start and from stores of outputs. Every conditional may go either
-- way. (No rule of the language.)
use Rattle.std.specs.Prelude.{Bool, true, false, not, ◌&&◌, ◌||◌, List, [], ◌∷◌, ◌≡◌, ℕ, nat_eq}
use Rattle.std.specs.List.{list_any}
use Rattle.std.specs.Int.{bit_at}
use Rattle.std.specs.Option.{option_map_or}
use Rattle.wc_model.specs.Definitions.{same_name, Name}
use Rattle.wc_model.specs.declared.operator.Condition.TheVariants.{Always}
use Rattle.indexmap.specs.IndexMap.{IndexMap, get_by}
use Rattle.wc_names.specs.Keys.{name_of_key}
use Rattle.wc_names.specs.declared.key.Key.{Key}
use Rattle.wc_diag_warnings.specs.Events.{Action, Labels, Jumps, Returns, BodyEvent}
use Rattle.wc_diag_warnings.specs.Uses.{stores}
use Rattle.wc_diag_warnings.specs.declared.edges.Ahead.{Ahead}
use Rattle.wc_diag_warnings.specs.declared.edges.PathSources.{PathSources}

-- no run goes on from it to the next event
abbrev pub action_leaves : Action → Bool
action_leaves (Jumps Always label) = true
action_leaves (Returns Always) = true
action_leaves action = false

abbrev pub action_jumps : Action → Name → Bool
action_jumps (Jumps condition label) name = same_name label name
action_jumps action name = false

-- an event, and whether there is a path to it
pub record Passed : Type 0 where
  pub event : BodyEvent
  pub on : Bool

-- a path comes from the event right before, or begins there; or the body's start is one
abbrev pub comes_down : Bool → (BodyEvent → Bool) → List Passed → Bool
comes_down starts marks [] = starts
comes_down starts marks (last ∷ earlier) = not (action_leaves last.event.action) && (last.on || marks last.event)

-- a path comes by a jump to a label that is here
abbrev pub comes_by_jump : List Passed → Action → Bool
comes_by_jump earlier (Labels name) = list_any (λ jump. jump.on && action_jumps jump.event.action name) earlier
comes_by_jump earlier action = false

abbrev pub arrives : Bool → (BodyEvent → Bool) → List Passed → BodyEvent → Bool
arrives starts marks earlier e = comes_down starts marks earlier || comes_by_jump earlier e.action

abbrev pub passed : Bool → (BodyEvent → Bool) → List BodyEvent → List Passed
passed starts marks [] = []
passed starts marks (e ∷ before) = let earlier = passed starts marks before in record { event = e; on = arrives starts marks earlier e } ∷ earlier

-- there is a path to an event after these
abbrev pub is_on : Bool → (BodyEvent → Bool) → List BodyEvent → BodyEvent → Bool
is_on starts marks before e = arrives starts marks (passed starts marks before) e

-- a run comes to it from the body's start
abbrev pub is_reached : List BodyEvent → BodyEvent → Bool
is_reached before e = is_on true (λ any. false) before e

-- the body's start, or the stores of the output of a number
pub data Source : Type 0 where
  Start : Source
  Store : (output : ℕ) → Source

abbrev pub starts : Source → Bool
starts Start = true
starts (Store output) = false

abbrev pub marks : Source → BodyEvent → Bool
marks Start e = false
marks (Store output) e = stores output e

abbrev pub is_store : ℕ → Source → Bool
is_store number Start = false
is_store number (Store output) = nat_eq output number

-- the events before, newest first, each with whether a path comes to it from there
abbrev pub edges : Source → List BodyEvent → List Passed
edges source before = passed (starts source) (marks source) before

-- one of the paths comes from there
abbrev pub is_from : PathSources → Source → Bool
is_from paths Start = paths.started
is_from paths (Store output) = nat_eq (bit_at paths.stored output) 1

-- these are the paths to an event after those before
abbrev pub AreFrom : PathSources → List BodyEvent → BodyEvent → Type 0
AreFrom paths before e = (source : Source) → is_from paths source ≡ is_on (starts source) (marks source) before e

-- one of the paths that are kept for a label comes from there
abbrev pub leads : {S : Type 0} → IndexMap Key PathSources S → Name → Source → Bool
leads labels name source = option_map_or (λ paths. is_from paths source) (get_by (λ key. same_name (name_of_key key) name) labels) false

-- the paths that go on from the events before, newest first: to the next, and to labels
pub record IsFollowed (before : List BodyEvent) (ahead : Ahead) : Type 0 where
  pub next : (source : Source) → is_from ahead.next source ≡ comes_down (starts source) (marks source) (edges source before)
  pub labels : (source : Source) (key : Key) → leads ahead.labels (name_of_key key) source ≡ comes_by_jump (edges source before) (Labels (name_of_key key))
