-- What an open scale represents: its plate, and all that has come to it; what a prelude holds of that. (The profile's own.)
use Rattle.std.specs.Prelude.{◌≡◌, ⊤, ℕ, ◌≤◌, List, [], Option, Some, None, IfSome, option_map}
use Rattle.wc_indicator.specs.Kept.{RepresentsHistory}
use Rattle.wc_machine.specs.Machines.{MachineState, RepresentsText}
use Rattle.wc_model.specs.Definitions.{PlateData, IsPlate, History, initial_of, Store, Text}
use Rattle.wc_sma.specs.Feeding.{RepresentsBytes}
use Rattle.wc_laws_instrument.specs.Preludes.{ScaleState}
use Rattle.wc_run.specs.declared.open_scale.OpenScale.{OpenScale}
use Rattle.wc_run.specs.declared.preludes.Prelude.{Prelude}

-- a program's text, and the store from which its next scan goes on
pub record Running : Type 0 where
  pub text : Text
  pub store : Store

-- a text before its first scan
abbrev pub started : Text → Running
started text = record { text = text; store = initial_of text }

-- what has come: the indicator's history, the line's bytes, the inputs, and the program if one is loaded
pub record Came : Type 0 where
  pub history : History
  pub bytes : List ℕ
  pub inputs : ℕ
  pub program : Option Running

-- nothing yet but a program, or none
abbrev pub only_program : Option Running → Came
only_program program = record { history = []; bytes = []; inputs = 0; program = program }

-- nothing yet
abbrev pub nothing_yet : Came
nothing_yet = only_program None

-- a machine represents a program, and no machine represents none
abbrev pub IsRunning : Option MachineState → Option Running → Type 0
IsRunning None None = ⊤
IsRunning None (Some running) = ⊥
IsRunning (Some machine) None = ⊥
IsRunning (Some machine) (Some running) = RepresentsText machine running.text running.store

-- the scale represents a plate and what has come
pub record Represents {S : Type 0} (scale : OpenScale S) (plate : PlateData) (came : Came) : Type 0 where
  pub is_plate : IsPlate plate
  pub indicator : RepresentsHistory scale.indicator plate came.history
  pub line : RepresentsBytes scale.line came.bytes
  pub inputs : scale.inputs ≡ came.inputs
  pub program : IsRunning scale.machine came.program

-- whatever the scale represented, it then represents what this makes of it
abbrev pub Goes : {S : Type 0} → OpenScale S → OpenScale S → (Came → Came) → Type 0
Goes old new step = (plate : PlateData) (came : Came) → Represents old plate came → Represents new plate (step came)

-- no program is loaded
abbrev pub HasNoProgram : {S : Type 0} → OpenScale S → Type 0
HasNoProgram scale = scale.machine ≡ None

-- no scan so far was after this time
abbrev pub IsNotAfter : {S : Type 0} → OpenScale S → ℕ → Type 0
IsNotAfter scale ms = IfSome scale.machine (λ machine. machine.last ≤ ms)

-- the last scan was at this time
abbrev pub IsScannedAt : {S : Type 0} → OpenScale S → ℕ → Type 0
IsScannedAt scale ms = IfSome scale.machine (λ machine. machine.last ≡ ms)

-- the state of a scale
abbrev pub state_view : Prelude → ScaleState
state_view prelude = record {
  zero = prelude.zero;
  tare = prelude.tare;
  window = prelude.samples.items;
  request = option_map (λ text. text.items) prelude.request;
  inputs = prelude.inputs;
}
