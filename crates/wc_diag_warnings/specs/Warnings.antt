-- The warnings of a text, in text order. (The profile's own.)
-- 1: a variable is neither read nor written. 2: it is never read. 3: it is read, never written, and has no first value.
-- 4: an instance is never called. 5: a block never writes its output. 6: a timer is called whose PT nothing gives.
-- 7: a stretch of lines begins that no run reaches. 8: an output is stored that was stored on a path to there.
-- 9: a weight is read, for the first time, in a body that never reads `%IX1.5`.
use Rattle.std.specs.Prelude.{ℕ, Bool, true, false, not, ◌&&◌, ◌||◌, List, [], ◌∷◌, ◌++◌, Option, Some, None, is_some, if◌then◌else◌}
use Rattle.std.specs.List.{flat_map, list_any}
use Rattle.wc_model.specs.Language.Checks.{Position, positions_of}
use Rattle.wc_model.specs.Definitions.{Variable, elementary_types, named_in, standard_blocks, variables_of, Name, Address, ProgramUnit, Text}
use Rattle.wc_model.specs.declared.block.StandardBlock.{StandardBlock}
use Rattle.wc_model.specs.declared.block.StandardBlock.TheVariants.{Ton, Tof, Tp}
use Rattle.wc_model.specs.declared.source.Section.{Section}
use Rattle.wc_model.specs.declared.source.Section.TheVariants.{Input, Output, Own}
use Rattle.wc_model.specs.declared.source.UnitKind.{UnitKind}
use Rattle.wc_model.specs.declared.source.UnitKind.TheVariants.{FunctionBlock, Program}
use Rattle.wc_diag_warnings.specs.Uses.{outputs, reads_valid, reads_weight, stores, Used, used_in}
use Rattle.wc_diag_warnings.specs.Events.{Action, Begins, Reads, Stores, BodyEvent, events_of}
use Rattle.wc_diag_warnings.specs.Paths.{is_on, is_reached}

-- a warning: its number, its line, and the name of which it is; no name for lines that no run reaches
pub record WarningAt : Type 0 where
  pub number : ℕ
  pub line : ℕ
  pub name : Name

-- the warning of that number, if there is one
abbrev pub warning_at : Option ℕ → ℕ → Name → List WarningAt
warning_at None line name = []
warning_at (Some number) line name = record { number = number; line = line; name = name } ∷ []

-- a variable of a body that is used by it alone: whether it is read, and written, and has a first value
abbrev pub use_number : Bool → Bool → Bool → Option ℕ
use_number false written first = Some (if written then 2 else 1)
use_number true written first = if written || first then None else Some 3

-- a block's inputs are written by its callers, and its outputs read by them
abbrev pub variable_number : UnitKind → Section → Bool → Bool → Bool → Option ℕ
variable_number FunctionBlock Input first read written = if read then None else Some 2
variable_number FunctionBlock Output first read written = if written then None else Some 5
variable_number FunctionBlock Own first read written = use_number read written first
variable_number Program section first read written = use_number read written first

-- whether an instance is a timer, is called, and is given a PT
abbrev pub instance_number : Bool → Bool → Bool → Option ℕ
instance_number timer false given = Some 4
instance_number timer true given = if timer && not given then Some 6 else None

abbrev pub is_timer : Option StandardBlock → Bool
is_timer (Some Ton) = true
is_timer (Some Tof) = true
is_timer (Some Tp) = true
is_timer block = false

-- the number of a declared name's warning, in a unit of that kind, by what is done with each name there: of a variable, or of an instance
abbrev pub number_by : UnitKind → (Name → Used) → Variable → Option ℕ
number_by kind uses v = elim (named_in elementary_types v.type_name) [
  | Some type ↦ variable_number kind v.section (is_some v.initial) (uses v.name).read (uses v.name).written
  | None ↦ instance_number (is_timer (named_in standard_blocks v.type_name)) (uses v.name).called (uses v.name).given
]

-- in a unit of that kind with these events
abbrev pub declared_number : UnitKind → List BodyEvent → Variable → Option ℕ
declared_number kind events v = number_by kind (used_in events) v

abbrev pub variable_warnings : UnitKind → (Name → Used) → Variable → List WarningAt
variable_warnings kind uses v = warning_at (number_by kind uses v) v.line v.name

-- an instruction begins
abbrev pub action_begins : Action → Bool
action_begins Begins = true
action_begins action = false

-- the last instruction before is reached, or there is none
abbrev pub is_above_reached : List BodyEvent → Bool
is_above_reached [] = true
is_above_reached (e ∷ before) = if action_begins e.action then is_reached before e else is_above_reached before

abbrev pub begins_stretch : List BodyEvent → BodyEvent → Bool
begins_stretch before e = action_begins e.action && is_above_reached before && not (is_reached before e)

-- it stores an output that is stored on a path to it
abbrev pub is_stored_again : List ℕ → List BodyEvent → BodyEvent → Bool
is_stored_again numbers before e = list_any (λ output. is_on false (stores output) before e && stores output e) numbers

-- it reads a weight, none is read before, and the validity nowhere
abbrev pub is_unasked : List BodyEvent → List BodyEvent → BodyEvent → Bool
is_unasked events before e = reads_weight e && not (list_any reads_valid events || list_any reads_weight before)

abbrev pub event_number : Bool → Bool → Bool → Option ℕ
event_number true again unasked = Some 7
event_number false true unasked = Some 8
event_number false false true = Some 9
event_number false false false = None

-- the address that an event reads or stores
abbrev pub address_of : Action → Name
address_of (Reads (Address word)) = word.name
address_of (Stores (Address word)) = word.name
address_of action = []

-- the number of an event's warning, after those before it
abbrev pub number_at : List ℕ → List BodyEvent → List BodyEvent → BodyEvent → Option ℕ
number_at numbers events before e = event_number (begins_stretch before e) (is_stored_again numbers before e) (is_unasked events before e)

abbrev pub event_warnings : List ℕ → List BodyEvent → Position BodyEvent → List WarningAt
event_warnings numbers events position = warning_at (number_at numbers events position.before position.item) position.item.line (address_of position.item.action)

-- addresses are in the program alone
abbrev pub outputs_in : UnitKind → List ℕ
outputs_in FunctionBlock = []
outputs_in Program = outputs

abbrev pub declared_warnings : UnitKind → (Name → Used) → List Variable → List WarningAt
declared_warnings kind uses variables = flat_map (variable_warnings kind uses) variables

abbrev pub all_event_warnings : List ℕ → List BodyEvent → List WarningAt
all_event_warnings numbers events = flat_map (event_warnings numbers events) (positions_of events)

abbrev pub body_warnings : UnitKind → List BodyEvent → List WarningAt
body_warnings kind events = all_event_warnings (outputs_in kind) events

abbrev pub unit_warnings : ProgramUnit → List WarningAt
unit_warnings unit = declared_warnings unit.kind (used_in (events_of unit.body)) (variables_of unit) ++ body_warnings unit.kind (events_of unit.body)

-- the warnings of a text
abbrev pub warnings : Text → List WarningAt
warnings text = flat_map unit_warnings text
