-- A scan of the machine inside is the scan of what the scale represents.
use Rattle.std.proofs.Common.{◌≡◌, ◌≤◌, ℕ, sym, ◌∙◌, ap, subst, IfOk, Result, Some, Vec, Global}
use Rattle.wc_indicator.specs.Kept.{Reports}
use Rattle.wc_machine.specs.{Leaves, MachineState, RepresentsText, text_of, IsSeen}
use Rattle.wc_machine.specs.declared.seen.SeenLine.{SeenLine}
use Rattle.wc_model.specs.Definitions.{PlateData, Outcome, Done, Stuck, IsProgramBound, scan_of, Store, Text, image_with, scans_of}
use Rattle.wc_model.specs.declared.fault.Fault.{Fault}
use Rattle.wc_model.specs.declared.image.Image.{Image}
use Rattle.wc_run.specs.{image_of, EndsScan, IsDone, LeavesScan, RecordsScan, Scans, Sees, record_of}
use Rattle.wc_run.specs.OpenScales.{Came, IsRunning, Running, Represents}
use Rattle.wc_run.specs.declared.open_scale.OpenScale.{OpenScale}
use Rattle.wc_record.specs.declared.last_scans.Record.{Record}

-- a scan after which the machine represents a store is done
pub leaves_done : (machine : MachineState) (text : Text) (steps : ℕ) (outcome : Outcome) → Leaves machine text steps outcome → IsDone outcome
leaves_done machine text steps (Done result store trace) leaves = tt
leaves_done machine text steps (Stuck reason) leaves = leaves

-- what a scan sees is what has come
seen_image : {S : Type 0} (old : OpenScale S) (image : Image) (plate : PlateData) (came : Came) →
    Reports (λ p history. image_with p old.inputs history) old.indicator image → Represents old plate came → image ≡ image_of plate came
seen_image old image plate came reported represents = reported plate came.history represents.indicator ∙ ap (λ inputs. image_with plate inputs came.history) represents.inputs

-- the machine represents the program
machine_represents : {S : Type 0} (old : OpenScale S) (machine : MachineState) (plate : PlateData) (came : Came) (running : Running) → old.machine ≡ Some machine →
    came.program ≡ Some running → Represents old plate came → RepresentsText machine running.text running.store
machine_represents old machine plate came running is loaded represents =
    subst (λ program. IsRunning (Some machine) program) loaded (subst (λ held. IsRunning held came.program) is represents.program)

pub scans : {S : Type 0} (old : OpenScale S) (machine new : MachineState) (ms : ℕ) (image : Image) (scanned : Record) → old.machine ≡ Some machine →
    Reports (λ p history. image_with p old.inputs history) old.indicator image → LeavesScan machine new ms image → RecordsScan machine ms image scanned →
    ((n : ℕ) → IsProgramBound (text_of machine) n → scanned.steps ≤ n) → EndsScan machine ms image → Scans old (record old { machine = Some new }) ms scanned
scans old machine new ms image scanned is reported leaves records within ends plate came running loaded represents =
    let same : image ≡ image_of plate came = seen_image old image plate came reported represents in
    let at : RepresentsText machine running.text running.store = machine_represents old machine plate came running is loaded represents in
    record {
      done = subst (λ i. IsDone (scan_of running.text running.store i ms)) same (ends running.text running.store at);
      recorded = subst (λ i. scanned ≡ record_of ms (scans_of running.text running.store i ms)) same (records running.text running.store at);
      represents = record {
        is_plate = represents.is_plate;
        indicator = represents.indicator;
        line = represents.line;
        inputs = represents.inputs;
        program = subst (λ i. RepresentsText new running.text (scans_of running.text running.store i ms).after) same (leaves running.text running.store at);
      };
      within = λ n bound. within n (subst (λ text. IsProgramBound text n) (sym at.same_text) bound);
    }

-- and what is seen of it is what is seen of the machine's
pub sees : {S : Type 0} (old : OpenScale S) (machine : MachineState) (ms : ℕ) (image : Image) (seen : Result (Vec SeenLine Global) Fault) → old.machine ≡ Some machine →
    Reports (λ p history. image_with p old.inputs history) old.indicator image →
    ((text : Text) (store : Store) → RepresentsText machine text store → IfOk seen (λ lines. IsSeen text store image ms lines.items)) → Sees old ms seen
sees old machine ms image seen is reported shows plate came running loaded represents =
    subst (λ i. IfOk seen (λ lines. IsSeen running.text running.store i ms lines.items)) (seen_image old image plate came reported represents)
    (shows running.text running.store (machine_represents old machine plate came running is loaded represents))
