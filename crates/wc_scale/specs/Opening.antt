-- What comes of the text of a plate or of a program, and what is reported about one that is refused. (The profile's own.)
use Rattle.std.specs.Prelude.{◌≡◌, ⊤, ℕ, List, Ok, Err}
use Rattle.wc_model.specs.Definitions.{plate_of, PlateData, IsPlate, IsLoaded, IsRefused, initial_of, Text}
use Rattle.wc_model.specs.declared.fault.Fault.{Fault}
use Rattle.wc_model.specs.declared.fault.Fault.TheVariants.{Refused, Memory}
use Rattle.wc_run.specs.OpenScales.{Represents, nothing_yet}
use Rattle.wc_run.specs.declared.open_scale.OpenScale.{OpenScale}
use Rattle.wc_plate.specs.TomlTable.{table_read}
use Rattle.wc_machine.specs.Machines.{MachineState, RepresentsText}
use Rattle.wc_scale.specs.declared.results.Refusal.{Refusal}

-- the text gives this plate
abbrev pub GivesPlate : List ℕ → PlateData → Type 0
GivesPlate text plate = (plate_of (table_read text) ≡ Ok plate) × IsPlate plate

-- the text is refused by a rule for plates under this number, at no line
abbrev pub RefusesPlate : List ℕ → ℕ → ℕ → Type 0
RefusesPlate text number place = (plate_of (table_read text) ≡ Err number) × (place ≡ 0)

-- a scale to which nothing has come, by the plate that a text gives
pub record HasPlate {S : Type 0} (text : List ℕ) (opened : OpenScale S) : Type 0 where
  pub plate : PlateData
  pub given : GivesPlate text plate
  pub represents : Represents opened plate nothing_yet

-- why there is none; out of memory says nothing
abbrev pub IsRefusedPlate : List ℕ → Fault → Type 0
IsRefusedPlate text (Refused number place) = RefusesPlate text number place
IsRefusedPlate text Memory = ⊤

-- a machine before its first scan, by the text that the bytes are loaded as
pub record Begins (bytes : List ℕ) (machine : MachineState) : Type 0 where
  pub text : Text
  pub loaded : IsLoaded bytes text
  pub represents : RepresentsText machine text (initial_of text)
  pub last : machine.last ≡ 0

-- the bytes are refused under this number at this line; they are loaded as nothing and have no other refusal
pub record IsRefusedAt (bytes : List ℕ) (number line : ℕ) : Type 0 where
  pub refused : IsRefused bytes number line
  pub never : (text : Text) → ¬ (IsLoaded bytes text)
  pub only : (other place : ℕ) → IsRefused bytes other place → (other ≡ number) × (place ≡ line)

-- a refusal's number and position; out of memory, both are 0
abbrev pub ReportsFault : Fault → Refusal → Type 0
ReportsFault (Refused number place) reported = (reported.status ≡ 1) × (reported.number ≡ number) × (reported.place ≡ place)
ReportsFault Memory reported = (reported.status ≡ 2) × (reported.number ≡ 0) × (reported.place ≡ 0)

-- unless a text is refused, number and position are 0
abbrev pub IsBare : Refusal → Type 0
IsBare reported = ¬ (reported.status ≡ 1) → (reported.number ≡ 0) × (reported.place ≡ 0)
