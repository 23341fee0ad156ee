-- What a scan leaves, what is recorded and what is seen of it. (The profile's own.)
use Rattle.std.proofs.Common.{Global, Vec}
use Rattle.std.specs.Prelude.{◌≡◌, ⊤, ℕ, ◌≤◌, IfOk, Result, Some}
use Rattle.wc_machine.specs.{MachineState, RepresentsText, IsSeen}
use Rattle.wc_machine.specs.declared.seen.SeenLine.{SeenLine}
use Rattle.wc_model.specs.Definitions.{PlateData, Outcome, Done, Stuck, IsProgramBound, scan_of, Store, Text, scans_of, ScanResult}
use Rattle.wc_model.specs.declared.fault.Fault.{Fault}
use Rattle.wc_model.specs.declared.image.Image.{Image}
use Rattle.wc_run.specs.Coming.{image_of, with_program}
use Rattle.wc_run.specs.OpenScales.{Came, Running, Represents}
use Rattle.wc_run.specs.declared.open_scale.OpenScale.{OpenScale}
use Rattle.wc_record.specs.declared.last_scans.Record.{Record}

-- a scan ends without a trap
abbrev pub IsDone : Outcome → Type 0
IsDone (Done result store trace) = ⊤
IsDone (Stuck reason) = ⊥

-- what is kept of a scan of this result at this time
abbrev pub record_of : ℕ → ScanResult Store → Record
record_of ms result = record { ms = ms; steps = result.steps; outputs = result.outputs }

-- the machine represents the store that a scan leaves
abbrev pub LeavesScan : MachineState → MachineState → ℕ → Image → Type 0
LeavesScan old new ms image = (text : Text) (store : Store) → RepresentsText old text store → RepresentsText new text (scans_of text store image ms).after

-- the scan is done
abbrev pub EndsScan : MachineState → ℕ → Image → Type 0
EndsScan old ms image = (text : Text) (store : Store) → RepresentsText old text store → IsDone (scan_of text store image ms)

-- the record is the scan's
abbrev pub RecordsScan : MachineState → ℕ → Image → Record → Type 0
RecordsScan old ms image scanned = (text : Text) (store : Store) → RepresentsText old text store → scanned ≡ record_of ms (scans_of text store image ms)

-- what a scan of the program leaves, from the inputs and the indicator as they are
abbrev pub scan_result : PlateData → Came → Running → ℕ → ScanResult Store
scan_result plate came running ms = scans_of running.text running.store (image_of plate came) ms

-- the program after it
abbrev pub scanned_program : PlateData → Came → Running → ℕ → Running
scanned_program plate came running ms = record { text = running.text; store = (scan_result plate came running ms).after }

-- the scan does what the text means, without a trap and within its bound
pub record IsScanned {S : Type 0} (new : OpenScale S) (plate : PlateData) (came : Came) (running : Running) (ms : ℕ) (scanned : Record) : Type 0 where
  pub done : IsDone (scan_of running.text running.store (image_of plate came) ms)
  pub recorded : scanned ≡ record_of ms (scan_result plate came running ms)
  pub represents : Represents new plate (with_program (scanned_program plate came running ms) came)
  pub within : (n : ℕ) → IsProgramBound running.text n → scanned.steps ≤ n

-- for whatever plate, whatever has come and whatever program the scale represents
abbrev pub Scans : {S : Type 0} → OpenScale S → OpenScale S → ℕ → Record → Type 0
Scans old new ms scanned =
    (plate : PlateData) (came : Came) (running : Running) → came.program ≡ Some running → Represents old plate came → IsScanned new plate came running ms scanned

-- the lines, unless there was no memory for them, are what is seen of it
abbrev pub Sees : {S : Type 0} → OpenScale S → ℕ → Result (Vec SeenLine Global) Fault → Type 0
Sees old ms seen =
    (plate : PlateData) (came : Came) (running : Running) → came.program ≡ Some running → Represents old plate came →
    IfOk seen (λ lines. IsSeen running.text running.store (image_of plate came) ms lines.items)
