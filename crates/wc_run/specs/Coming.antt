-- What has come and one thing more; what bytes on the line come to, and what a change of the program does, for whatever plate and
-- whatever has come the scale represents. (The profile's own.)
use Rattle.std.specs.Prelude.{ℕ, List, [], ◌∷◌, ◌++◌, Some, ℤ, ◌≤ℤ◌, ◌≡◌, Option}
use Rattle.std.specs.Io.KnownBytes.{Appends}
use Rattle.wc_model.specs.Definitions.{after_requests, answers_to, PlateData, greatest_sample, least_sample, requests_in, Sample, image_with, carried, Text}
use Rattle.wc_model.specs.declared.image.Image.{Image}
use Rattle.wc_sma.specs.Feeding.{IsCutShort, HasFailed}
use Rattle.wc_run.specs.OpenScales.{Came, Running, Represents, IsNotAfter}
use Rattle.wc_run.specs.declared.open_scale.OpenScale.{OpenScale}

-- no farther than the sensor reaches
abbrev pub IsSample : ℤ → Type 0
IsSample counts = (least_sample ≤ℤ counts) × (counts ≤ℤ greatest_sample)

-- and a sample
abbrev pub with_sample : ℤ → Came → Came
with_sample counts came = record came { history = Sample counts ∷ came.history }

-- and bytes on the line, which act on the requests that they complete
abbrev pub with_bytes : List ℕ → Came → Came
with_bytes bytes came = record came { history = after_requests (requests_in came.bytes bytes) came.history; bytes = came.bytes ++ bytes }

-- and one byte
abbrev pub with_byte : ℕ → Came → Came
with_byte byte came = with_bytes (byte ∷ []) came

-- with these inputs from now on
abbrev pub with_inputs : ℕ → Came → Came
with_inputs inputs came = record came { inputs = inputs }

-- with this program from now on
abbrev pub with_program : Running → Came → Came
with_program running came = record came { program = Some running }

-- what a scan sees of it: the inputs and the indicator as they are
abbrev pub image_of : PlateData → Came → Image
image_of plate came = image_with plate came.inputs came.history

-- the writer has taken the answers to the requests that the bytes complete, in order: the program has no part in them
abbrev pub Answers : {S : Type 0} → OpenScale S → List ℕ → Option (List ℕ) → Option (List ℕ) → Type 0
Answers old bytes taken taken' =
    (plate : PlateData) (came : Came) → Represents old plate came → Appends taken taken' (answers_to plate (requests_in came.bytes bytes) came.history)

-- an answer could not be written in full
abbrev pub HasLineFailed : {S : Type 0} → OpenScale S → Type 0
HasLineFailed scale = HasFailed scale.line

-- The bytes are not taken to their end, and the line has failed; the requests up to the one whose answer was cut short are acted on.
pub record IsCutShortAt {S : Type 0} (old new : OpenScale S) (bytes : List ℕ) (taken taken' : Option (List ℕ)) : Type 0 where
  pub failed : HasLineFailed new
  pub cut : (plate : PlateData) (came : Came) → Represents old plate came → IsCutShort plate (requests_in came.bytes bytes) came.history new.indicator taken taken'
  pub inputs : new.inputs ≡ old.inputs
  pub machine : new.machine ≡ old.machine

-- the next text, and what is carried over to it
abbrev pub changed_program : Running → Text → Running
changed_program running text = record { text = text; store = carried running.text running.store text }

-- the store of the new text is what is carried over to it, and the moment of the last scan stays
pub record IsChangedTo {S : Type 0} (old new : OpenScale S) (text : Text) : Type 0 where
  pub represents : (plate : PlateData) (came : Came) (running : Running) → came.program ≡ Some running → Represents old plate came →
      Represents new plate (with_program (changed_program running text) came)
  pub last : (ms : ℕ) → IsNotAfter old ms → IsNotAfter new ms
  pub stays : (ms : ℕ) → IsNotAfter new ms → IsNotAfter old ms
