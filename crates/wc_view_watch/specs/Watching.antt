-- What an observer that watches variables has looked up, and what it has kept. (No rule of the language.)
use Rattle.std.specs.Prelude.{◌≡◌, ℕ, Bool, true, List, [], ◌∷◌, map, Option, Some, None, IfSome, MatchOption, option_map, if◌then◌else◌}
use Rattle.std.specs.Option.{IsNone, IsSomeAnd}
use Rattle.wc_machine.specs.Machines.{MachineState}
use Rattle.wc_model.specs.Definitions.{PlateData, Text, Past, Logic}
use Rattle.wc_run.specs.{logic_after, IsShown, row_of, IsRunning, Represents, program_of}
use Rattle.wc_run.specs.declared.row_seen.RowSeen.{RowSeen}
use Rattle.wc_run.specs.declared.log_scale.LogScale.{LogScale}
use Rattle.wc_text_variables.specs.Names.{variable_named}
use Rattle.wc_view_watch.specs.Plans.{last_values, scans_so_far, IsFirstUnknown, names_in}
use Rattle.wc_view_watch.specs.Ring.{RingState, HoldsLast}
use Rattle.wc_view_watch.specs.declared.last_values.LastValues.{LastValues}
use Rattle.wc_view_watch.specs.declared.names.UnknownName.{UnknownName}
use Rattle.wc_view_watch.specs.declared.watched_names.WatchedNames.{WatchedNames}
use Rattle.wc_view_watch.specs.declared.watcher.Watcher.{Watcher}

-- the names of the list, what they mean in the text that runs, and in the next one, if there is one
pub record AreLookedUp (names : WatchedNames) (list : List ℕ) (text : Text) (next : Option Text) : Type 0 where
  pub listed : map (λ name. name.now) names.names.items ≡ names_in list
  pub here : names.watched.items ≡ map (variable_named text) (names_in list)
  pub ahead : option_map (λ all. all.items) names.next ≡ option_map (λ other. map (variable_named other) (names_in list)) next

-- so of a logic; with none nothing is looked up
abbrev pub FitLogic : WatchedNames → List ℕ → Option Logic → Type 0
FitLogic names list logic = IfSome logic (λ running. AreLookedUp names list running.text running.next)

-- the machine runs the logic, and with none there is no machine
abbrev pub RunsLogic : Option MachineState → Option Logic → Type 0
RunsLogic machine logic = IsRunning machine (program_of logic)

-- the last n texts are kept, if these are asked for
abbrev pub KeepsLast : Option RingState → Option ℕ → List (List ℕ) → Type 0
KeepsLast ring last texts = MatchOption last (IsNone ring) (λ number. IsSomeAnd ring (λ kept. HoldsLast kept number texts))

-- the values that are kept, if there are any
abbrev pub kept_values : LastValues → Option (List ℕ)
kept_values values = if values.there then Some values.values.items else None

-- those that the last scan has left, if scans are compared
abbrev pub KeepsValues : (changes : Bool) → LastValues → Option (List ℕ) → Type 0
KeepsValues changes kept values = changes ≡ true → kept_values kept ≡ values

-- the names are those of the logic after the rows so far, and the last scans of these rows and the values of the last one are kept
pub record HasSeen (watcher : Watcher) (plate : PlateData) (logic : Option Logic) (past : Past) : Type 0 where
  pub names : FitLogic watcher.names watcher.list.now (logic_after plate logic past)
  pub scans : KeepsLast watcher.last watcher.number (scans_so_far watcher.list.now watcher.changes plate logic past)
  pub values : KeepsValues watcher.changes watcher.values (last_values watcher.list.now plate logic past)

-- nothing was seen yet
pub record IsNew (watcher : Watcher) : Type 0 where
  pub scans : KeepsLast watcher.last watcher.number []
  pub values : kept_values watcher.values ≡ None

-- it watches what it watched
pub record WatchesAs (old new : Watcher) : Type 0 where
  pub list : new.list ≡ old.list
  pub number : new.number ≡ old.number
  pub changes : new.changes ≡ old.changes

-- a name of the list was found that is unknown, and is the first one
abbrev pub HasRefused : List ℕ → WatchedNames → Option Logic → Type 0
HasRefused list names logic = (name : UnknownName) × (names.unknown ≡ Some name) × IsFirstUnknown list logic name

-- so at a row that is shown, if the names are those of the logic after it, and the last scans and the values are those of the rows before it
abbrev pub OfRow : {S : Type 0} → Watcher → RowSeen → LogScale S → (PlateData → Option Logic → Past → Type 0) → Type 0
OfRow watcher seen scale P =
    (plate : PlateData) (logic : Option Logic) (past : Past) → IsShown seen plate logic past → Represents scale plate logic (row_of seen ∷ past)
    → FitLogic watcher.names watcher.list.now (logic_after plate logic (row_of seen ∷ past)) → KeepsLast watcher.last watcher.number (scans_so_far watcher.list.now watcher.changes plate logic past)
    → KeepsValues watcher.changes watcher.values (last_values watcher.list.now plate logic past) → P plate logic past
