-- What each call with a row's work does to a scale and what it answers, for whatever plate and whatever has come the scale
-- represents. A call that answers any status but 0 changes nothing. (The profile's own.)
use Rattle.std.specs.Prelude.{◌≡◌, ℕ, ◌<◌, ◌≤◌, ◌-◌, List, [], ◌∷◌, drop, take, replicate, ℤ, pos, IfSome, Some}
use Rattle.wc_model.specs.Definitions.{answers_to, PlateData, requests_in, IsProgramBound, scan_of, Store, ScanResult, greatest_moment}
use Rattle.wc_run.specs.{IsSample, image_of, with_byte, with_inputs, with_program, with_sample, IsDone, scan_result, scanned_program, Came, Running, nothing_yet}
use Rattle.wc_scale.specs.Opening.{GivesPlate, RefusesPlate, IsBare}
use Rattle.wc_scale.specs.Representation.{HasNoProgram, IsClosed, IsKept, IsNotAfter, Represents, machine_in}
use Rattle.wc_scale.specs.declared.results.Answer.{Answer}
use Rattle.wc_scale.specs.declared.results.Engraved.{Engraved}
use Rattle.wc_scale.specs.declared.results.Reading.{Reading}
use Rattle.wc_scale.specs.declared.results.Refusal.{Refusal}
use Rattle.wc_scale.specs.declared.results.Scanned.{Scanned}
use Rattle.wc_scale.specs.declared.scale.Scale.{Scale}

-- ---- opening
-- the scale is opened by the plate that the text gives, and nothing has come to it
pub record IsOpened (new : Scale) (text : List ℕ) : Type 0 where
  pub plate : PlateData
  pub given : GivesPlate text plate
  pub represents : Represents new plate nothing_yet

abbrev pub TakesOpen : Scale → List ℕ → Refusal → Type 0
TakesOpen new text reported = reported.status ≡ 0 → IsOpened new text

-- a scale that is open stays so, and a text that is refused opens none
pub record RefusesOpen (old new : Scale) (text : List ℕ) (reported : Refusal) : Type 0 where
  pub kept : IsKept old new reported.status
  pub twice : ¬ (IsClosed old) → reported.status ≡ 4
  pub says : reported.status ≡ 1 → RefusesPlate text reported.number reported.place
  pub bare : IsBare reported
  pub else : IsClosed old → reported.status ≤ 2

-- ---- a sample
abbrev pub TakesSample : Scale → Scale → ℤ → ℕ → Type 0
TakesSample old new counts status = IsSample counts → (plate : PlateData) (came : Came) → Represents old plate came → (status ≡ 0) × Represents new plate (with_sample counts came)

-- a closed scale takes none, and an open one none out of range
pub record RefusesSample (old new : Scale) (counts : ℤ) (status : ℕ) : Type 0 where
  pub kept : IsKept old new status
  pub closed : IsClosed old → status ≡ 3
  pub range : ¬ (IsClosed old) → ¬ (IsSample counts) → status ≡ 6

-- ---- inputs
abbrev pub TakesInputs : Scale → Scale → ℕ → ℕ → Type 0
TakesInputs old new inputs status = (plate : PlateData) (came : Came) → Represents old plate came → (status ≡ 0) × Represents new plate (with_inputs inputs came)

pub record RefusesInputs (old new : Scale) (status : ℕ) : Type 0 where
  pub kept : IsKept old new status
  pub closed : IsClosed old → status ≡ 3

-- ---- a byte on the line
-- the byte is taken, and answered as the samples and the line's bytes so far say: the program has no part in it
pub record IsAnswered (new : Scale) (plate : PlateData) (came : Came) (byte : ℕ) (answer : Answer) : Type 0 where
  pub done : answer.status ≡ 0
  pub bytes : take answer.length answer.bytes ≡ answers_to plate (requests_in came.bytes (byte ∷ [])) came.history
  pub represents : Represents new plate (with_byte byte came)

abbrev pub TakesByte : Scale → Scale → ℕ → Answer → Type 0
TakesByte old new byte answer = (plate : PlateData) (came : Came) → Represents old plate came → IsAnswered new plate came byte answer

-- a closed scale answers nothing; after an answer's bytes are zeros
pub record RefusesByte (old new : Scale) (answer : Answer) : Type 0 where
  pub closed : IsClosed old → (answer.status ≡ 3) × (answer.length ≡ 0) × (new ≡ old)
  pub short : answer.length ≤ 20
  pub zeros : drop answer.length answer.bytes ≡ replicate (20 - answer.length) 0

-- ---- a scan
-- the steps and the outputs are those of this result
pub record IsReportedOf (scanned : Scanned) (result : ScanResult Store) : Type 0 where
  pub steps : scanned.steps ≡ result.steps
  pub bits : scanned.bits ≡ result.outputs.bits
  pub words : scanned.words ≡ result.outputs.words

-- the scan does what the text means, without a trap and within its bound, from the inputs and the indicator as they are
pub record IsScanned (new : Scale) (plate : PlateData) (came : Came) (running : Running) (ms : ℕ) (scanned : Scanned) : Type 0 where
  pub done : IsDone (scan_of running.text running.store (image_of plate came) ms)
  pub reported : IsReportedOf scanned (scan_result plate came running ms)
  pub represents : Represents new plate (with_program (scanned_program plate came running ms) came)
  pub within : (n : ℕ) → IsProgramBound running.text n → scanned.steps ≤ n
  pub last : IfSome (machine_in new.opened) (λ machine. machine.last ≡ ms)

abbrev pub TakesScan : Scale → Scale → ℕ → Scanned → Type 0
TakesScan old new ms scanned = scanned.status ≡ 0 →
    (plate : PlateData) (came : Came) (running : Running) → came.program ≡ Some running → Represents old plate came → IsScanned new plate came running ms scanned

-- a scan is done unless the scale is closed, has no program, or the moment is out of range or goes back; of one that is not done
-- no step and no output is reported
pub record RefusesScan (old new : Scale) (ms : ℕ) (scanned : Scanned) : Type 0 where
  pub kept : IsKept old new scanned.status
  pub empty : ¬ (scanned.status ≡ 0) → (scanned.steps ≡ 0) × (scanned.bits ≡ 0) × (scanned.words ≡ replicate 4 (pos 0))
  pub closed : IsClosed old → scanned.status ≡ 3
  pub program : ¬ (IsClosed old) → HasNoProgram old → scanned.status ≡ 5
  pub range : ¬ (IsClosed old) → ¬ (HasNoProgram old) → greatest_moment < ms → scanned.status ≡ 7
  pub back : ¬ (IsClosed old) → ¬ (HasNoProgram old) → ms ≤ greatest_moment → ¬ (IsNotAfter old ms) → scanned.status ≡ 8
  pub else : ¬ (IsClosed old) → ¬ (HasNoProgram old) → ms ≤ greatest_moment → IsNotAfter old ms → scanned.status ≡ 0

-- ---- what is shown
-- the status and the weights of the process image
abbrev pub ReportsReading : Scale → Reading → Type 0
ReportsReading scale reading = (plate : PlateData) (came : Came) → Represents scale plate came →
    (reading.status ≡ 0) × (reading.flags ≡ (image_of plate came).status) × (reading.weights ≡ (image_of plate came).weights)

-- what is engraved: the unit, the digits after the point, the greatest load and the scale interval of the plate
abbrev pub ReportsEngraved : Scale → Engraved → Type 0
ReportsEngraved scale engraved = (plate : PlateData) (came : Came) → Represents scale plate came →
    (engraved.status ≡ 0) × (engraved.unit ≡ plate.unit) × (engraved.decimals ≡ pos plate.decimals) × (engraved.max ≡ pos plate.max) × (engraved.e ≡ pos plate.e)

-- nothing is shown of a closed scale: no flag is set, so that it is not valid, and each weight is 0
abbrev pub ShowsNothing : Reading → Type 0
ShowsNothing reading = (reading.status ≡ 3) × (reading.flags ≡ 0) × (reading.weights ≡ replicate 3 (pos 0))

-- nothing is engraved on a closed scale: the unit's bytes are 0, and so is each number
abbrev pub ShowsNoPlate : Engraved → Type 0
ShowsNoPlate engraved =
    (engraved.status ≡ 3) × (engraved.unit ≡ replicate 3 0) × (engraved.decimals ≡ pos 0) × (engraved.max ≡ pos 0) × (engraved.e ≡ pos 0)
