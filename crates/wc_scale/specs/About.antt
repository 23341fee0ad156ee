-- What is reported about a unit of a program's text.
use Rattle.std.specs.Prelude.{◌≡◌, ◌⊎◌, ℕ, ◌<◌, ◌≤◌, ◌-◌, min, List, drop, length, replicate, take, Some, option_map, slice_get}
use Rattle.wc_cost.specs.LoadedTexts.{AreWorstAt}
use Rattle.wc_model.specs.Definitions.{IsLoaded, Text, IsBoundAt}
use Rattle.wc_scale.specs.Opening.{IsRefusedAt}
use Rattle.wc_scale.specs.declared.results.PathAnswer.{PathAnswer}
use Rattle.wc_scale.specs.declared.results.Refusal.{Refusal}
use Rattle.wc_scale.specs.declared.results.UnitAnswer.{UnitAnswer}

-- the number of units, the unit's bound, and the first 32 bytes of its name with zeros after them
pub record IsUnitReported (text : Text) (unit : ℕ) (reported : UnitAnswer) : Type 0 where
  pub there : unit < length text
  pub units : reported.units ≡ min (length text) 4294967295
  pub bound : IsBoundAt text unit reported.bound
  pub short : reported.length ≤ 32
  pub name : (spelled : List ℕ) → option_map (λ u. u.spelled) (slice_get text unit) ≡ Some spelled → take reported.length reported.name ≡ take 32 spelled
  pub padded : drop reported.length reported.name ≡ replicate (32 - reported.length) 0

-- the lines of the unit's worst path are in the buffer, and there are no more than it has
pub record IsPathReported (text : Text) (unit : ℕ) (buffer : List ℕ) (reported : PathAnswer) : Type 0 where
  pub there : unit < length text
  pub fits : reported.length ≤ length buffer
  pub worst : AreWorstAt text unit (take reported.length buffer)

-- the text has no unit of that number
abbrev pub HasNoUnit : Text → ℕ → Type 0
HasNoUnit text unit = length text ≤ unit

-- the unit's worst path has more lines than the buffer, or than are reported; this is their number
pub record IsTooLong (text : Text) (unit : ℕ) (buffer : List ℕ) (reported : PathAnswer) : Type 0 where
  pub there : unit < length text
  pub lines : List ℕ
  pub worst : AreWorstAt text unit lines
  pub long : (length buffer < length lines) ⊎ (4294967295 < length lines)
  pub count : reported.length ≡ min (length lines) 4294967295

-- if nothing is reported about a unit, each number is 0, and so are the bytes of its name
abbrev pub HasNothingOfUnit : UnitAnswer → Type 0
HasNothingOfUnit reported = ¬ (reported.text.status ≡ 0) →
    (reported.units ≡ 0) × (reported.bound ≡ 0) × (reported.length ≡ 0) × (reported.name ≡ replicate 32 0)

-- unless a path is reported, or is too long, it has no length
abbrev pub HasNothingOfPath : PathAnswer → Type 0
HasNothingOfPath reported = ¬ (reported.text.status ≡ 0) → ¬ (reported.text.status ≡ 11) → reported.length ≡ 0

-- the bytes are loaded as a text, of which this holds
pub record IsTextWith (bytes : List ℕ) (Holds : Text → Type 0) : Type 0 where
  pub text : Text
  pub loaded : IsLoaded bytes text
  pub holds : Holds text

abbrev pub ReportsUnit : List ℕ → ℕ → UnitAnswer → Type 0
ReportsUnit bytes unit reported = reported.text.status ≡ 0 → IsTextWith bytes (λ text. IsUnitReported text unit reported)

abbrev pub ReportsPath : List ℕ → ℕ → List ℕ → PathAnswer → Type 0
ReportsPath bytes unit buffer reported = reported.text.status ≡ 0 → IsTextWith bytes (λ text. IsPathReported text unit buffer reported)

-- a text that is refused is refused by its one refusal
abbrev pub RefusesText : List ℕ → Refusal → Type 0
RefusesText bytes reported = reported.status ≡ 1 → IsRefusedAt bytes reported.number reported.place

-- if it is reported that there is no such unit, the text has none of that number
abbrev pub ReportsNoUnit : List ℕ → ℕ → Refusal → Type 0
ReportsNoUnit bytes unit reported = reported.status ≡ 10 → IsTextWith bytes (λ text. HasNoUnit text unit)

-- if the buffer is reported to be too small, it is
abbrev pub ReportsTooSmall : List ℕ → ℕ → List ℕ → PathAnswer → Type 0
ReportsTooSmall bytes unit buffer reported = reported.text.status ≡ 11 → IsTextWith bytes (λ text. IsTooLong text unit buffer reported)

-- done, refused, or no memory; or there is no such unit
abbrev pub IsUnitStatus : ℕ → Type 0
IsUnitStatus status = (status ≤ 2) ⊎ (status ≡ 10)

-- the same; or there is no space
abbrev pub IsPathStatus : ℕ → Type 0
IsPathStatus status = IsUnitStatus status ⊎ (status ≡ 11)
