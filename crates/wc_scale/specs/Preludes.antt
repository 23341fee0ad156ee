-- What is reported about the state of a scale, and what brings it back; the digest of its plate: SHA-256 (FIPS 180-4) of its lines, in
-- which only the values can differ. (The profile's own.)
use Rattle.std.specs.Prelude.{◌≡◌, ◌==◌, ℕ, ℤ, pos, List, [], ◌∷◌, ◌++◌, codes, replicate, take, ◌-◌, zero, suc, drop, Option, Some, None}
use Rattle.std.specs.Fmt.{signed_decimal}
use Rattle.std.specs.List.{position_or_len}
use Rattle.sha2.specs.Sha256.{sha256}
use Rattle.wc_model.specs.Definitions.{PlateData, line_feed}
use Rattle.wc_run.specs.OpenScales.{Came}
use Rattle.wc_laws_instrument.specs.Preludes.{ScaleState, state_of}
use Rattle.wc_scale.specs.Representation.{Represents}
use Rattle.wc_scale.specs.declared.results.PlateDigest.{PlateDigest}
use Rattle.wc_scale.specs.declared.scale.Scale.{Scale}
use Rattle.wc_scale.specs.declared.results.PreludeAnswer.{PreludeAnswer}

-- a key and its value, on a line that ends with a line feed
abbrev pub value_line : List ℕ → List ℕ → List ℕ
value_line key value = key ++ codes " = " ++ value ++ (10 ∷ [])

-- these lines, and one more with a key and its number
abbrev pub with_number : List ℕ → List ℕ → ℤ → List ℕ
with_number lines key number = lines ++ value_line key (signed_decimal number)

-- a unit without the spaces after it
abbrev pub unit_text : List ℕ → List ℕ
unit_text unit = take (position_or_len (λ byte. byte == 32) unit) unit

-- the line of the unit
abbrev pub unit_line : List ℕ → List ℕ
unit_line unit = codes "unit = \"" ++ unit_text unit ++ codes "\"\n"

-- the lines of what is engraved
abbrev pub engraved_lines : PlateData → List ℕ
engraved_lines plate =
    with_number (with_number (with_number (unit_line plate.unit) (codes "decimals") (pos plate.decimals)) (codes "max") (pos plate.max)) (codes "e") (pos plate.e)

-- the lines of the seven keys, each with its value, as a plate may be written
abbrev pub plate_lines : PlateData → List ℕ
plate_lines plate =
    with_number (with_number (with_number (engraved_lines plate) (codes "zero_counts") plate.zero_counts) (codes "span_counts") (pos plate.span_counts))
    (codes "window") (pos plate.window)

-- the digest of an open scale's plate
abbrev pub ReportsDigest : Scale → PlateDigest → Type 0
ReportsDigest scale digest =
    (plate : PlateData) (came : Came) → Represents scale plate came → (digest.status ≡ 0) × (digest.bytes ≡ sha256 (plate_lines plate))

-- a closed scale has no plate: the bytes are 0
abbrev pub ShowsNoDigest : PlateDigest → Type 0
ShowsNoDigest digest = (digest.status ≡ 3) × (digest.bytes ≡ replicate 32 0)

-- a load, if there is one
abbrev pub load_reported : ℕ → ℤ → Option ℤ
load_reported zero counts = None
load_reported (suc n) counts = Some counts

-- the bytes of a request that is open: the line feed that opened it, and its text
abbrev pub request_bytes : Option (List ℕ) → List ℕ
request_bytes None = []
request_bytes (Some text) = line_feed ∷ text

-- the numbers are those of the state
pub record IsReportedState (reported : PreludeAnswer) (state : ScaleState) : Type 0 where
  pub same_zero : load_reported reported.has_zero reported.zero ≡ state.zero
  pub same_tare : load_reported reported.has_tare reported.tare ≡ state.tare
  pub same_samples : take reported.count reported.samples ≡ state.window
  pub same_inputs : reported.inputs ≡ state.inputs
  pub same_request : take reported.length reported.request ≡ request_bytes state.request

-- what is not set is 0, and so is all after the samples and after the request
pub record HasZerosBesides (reported : PreludeAnswer) : Type 0 where
  pub no_zero : reported.has_zero ≡ 0 → reported.zero ≡ pos 0
  pub no_tare : reported.has_tare ≡ 0 → reported.tare ≡ pos 0
  pub samples : drop reported.count reported.samples ≡ replicate (16 - reported.count) (pos 0)
  pub request : drop reported.length reported.request ≡ replicate (3 - reported.length) 0

-- what is reported is the state that all that has come has left, with the plate's window
pub record IsPreludeOf (reported : PreludeAnswer) (plate : PlateData) (came : Came) : Type 0 where
  pub done : reported.status ≡ 0
  pub window : reported.window ≡ plate.window
  pub state : IsReportedState reported (state_of plate came.history came.bytes came.inputs)

abbrev pub ReportsPrelude : Scale → PreludeAnswer → Type 0
ReportsPrelude scale reported = (plate : PlateData) (came : Came) → Represents scale plate came → IsPreludeOf reported plate came

-- nothing is reported about a closed scale
pub record HoldsNothing (reported : PreludeAnswer) : Type 0 where
  pub status : reported.status ≡ 3
  pub window : reported.window ≡ 0
  pub no_zero : (reported.has_zero ≡ 0) × (reported.zero ≡ pos 0)
  pub no_tare : (reported.has_tare ≡ 0) × (reported.tare ≡ pos 0)
  pub no_samples : (reported.count ≡ 0) × (reported.samples ≡ replicate 16 (pos 0))
  pub inputs : reported.inputs ≡ 0
  pub no_request : (reported.length ≡ 0) × (reported.request ≡ replicate 3 0)
