-- What a scale represents while it is open, what is kept of it, and the value of a variable, read by its name. (The profile's own.)
use Rattle.wc_model.specs.declared.kind.Kind.TheVariants as kinds
use Rattle.std.specs.Prelude.{◌≡◌, ℕ, ◌≤◌, Option, Some, None, IfSome, ◌⊎◌, List, pos}
use Rattle.wc_machine.specs.Machines.{MachineState}
use Rattle.wc_model.specs.Definitions.{PlateData, content_number, kind_of}
use Rattle.wc_run.specs.OpenScales.{Came, Represents as OpenRepresents, Running}
use Rattle.wc_run.specs.declared.open_scale.OpenScale.{OpenScale}
use Rattle.wc_model.specs.Language.Store.{Location, Plain}
use Rattle.wc_model.specs.declared.kind.Kind.{Kind}
use Rattle.wc_model.specs.declared.value.Value.{Value}
use Rattle.wc_text_variables.specs.Names.{named_location}
use Rattle.wc_scale.specs.declared.scale.Scale.{Scale}
use Rattle.wc_scale.specs.declared.results.VariableRead.{VariableRead}

-- what is open represents a plate and what has come; nothing open represents nothing
abbrev pub IsOpenAt : {S : Type 0} → Option (OpenScale S) → PlateData → Came → Type 0
IsOpenAt None plate came = ⊥
IsOpenAt (Some opened) plate came = OpenRepresents opened plate came

-- the machine of what is open, if a program is loaded
abbrev pub machine_in : {S : Type 0} → Option (OpenScale S) → Option MachineState
machine_in None = None
machine_in (Some opened) = opened.machine

-- the scale represents a plate and what has come
abbrev pub Represents : Scale → PlateData → Came → Type 0
Represents scale plate came = IsOpenAt scale.opened plate came

-- the scale has no plate
abbrev pub IsClosed : Scale → Type 0
IsClosed scale = scale.opened ≡ None

-- no program is loaded
abbrev pub HasNoProgram : Scale → Type 0
HasNoProgram scale = machine_in scale.opened ≡ None

-- the last scan was not after this time
abbrev pub IsNotAfter : Scale → ℕ → Type 0
IsNotAfter scale ms = IfSome (machine_in scale.opened) (λ machine. machine.last ≤ ms)

-- a call of this status changes nothing unless it is done
abbrev pub IsKept : Scale → Scale → ℕ → Type 0
IsKept old new status = ¬ (status ≡ 0) → new ≡ old

-- nothing is kept: the scale has no plate and no program
abbrev pub IsEmptied : Scale → Type 0
IsEmptied scale = IsClosed scale × HasNoProgram scale

-- the number of a kind, for C
abbrev pub kind_number : Kind → ℕ
kind_number kinds.Bool = 1
kind_number kinds.Dint = 2
kind_number kinds.Time = 3

-- the store of the program has this value where the name leads
pub record IsValueOf (read : VariableRead) (running : Running) (name : List ℕ) : Type 0 where
  pub place : Location
  pub named : named_location running.text name ≡ Some place
  pub value : Value
  pub held : running.store place ≡ Some (Plain value)
  pub kind : read.kind ≡ kind_number (kind_of value)
  pub number : read.number ≡ content_number (Plain value)

-- what holds of whatever program the scale has
abbrev pub OfProgram : Scale → (Running → Type 0) → Type 0
OfProgram scale Holds = (plate : PlateData) (came : Came) (running : Running) → came.program ≡ Some running → Represents scale plate came → Holds running

abbrev pub ReportsValue : Scale → List ℕ → VariableRead → Type 0
ReportsValue scale name read = read.status ≡ 0 → OfProgram scale (λ running. IsValueOf read running name)

-- why there is no value
pub record RefusesValue (scale : Scale) (name : List ℕ) (read : VariableRead) : Type 0 where
  pub closed : IsClosed scale → read.status ≡ 3
  pub program : ¬ (IsClosed scale) → HasNoProgram scale → read.status ≡ 5
  pub unknown : read.status ≡ 12 → OfProgram scale (λ running. named_location running.text name ≡ None)
  pub known : OfProgram scale (λ running. ¬ (named_location running.text name ≡ None) → (read.status ≡ 0) ⊎ (read.status ≡ 2))
  pub else : ¬ (IsClosed scale) → ¬ (HasNoProgram scale) → (read.status ≡ 0) ⊎ ((read.status ≡ 2) ⊎ (read.status ≡ 12))
  pub empty : ¬ (read.status ≡ 0) → (read.kind ≡ 0) × (read.number ≡ pos 0)
