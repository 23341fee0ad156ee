-- Calls of a scale that is open, and what its line makes of them: the customer's calls have no part in it. The last call of a list
-- is its first item, as the last event of a history is. (The profile's own.)
use Rattle.std.specs.Prelude.{◌≡◌, ℕ, Bool, true, false, not, List, [], ◌∷◌, ◌++◌, filter, take, ℤ, None, if◌then◌else◌}
use Rattle.wc_model.specs.Definitions.{answers_to, is_between, PlateData, greatest_sample, least_sample, requests_in}
use Rattle.wc_run.specs.{with_byte, with_sample, Came}
use Rattle.wc_scale.specs.Calls.{RefusesByte, RefusesInputs, RefusesOpen, RefusesSample, RefusesScan, TakesByte, TakesInputs, TakesOpen, TakesSample, TakesScan}
use Rattle.wc_scale.specs.Programs.{RefusesChange, RefusesLoad, TakesChange, TakesLoad}
use Rattle.wc_scale.specs.Representation.{Represents}
use Rattle.wc_scale.specs.declared.results.Answer.{Answer}
use Rattle.wc_scale.specs.declared.results.Refusal.{Refusal}
use Rattle.wc_scale.specs.declared.results.Scanned.{Scanned}
use Rattle.wc_scale.specs.declared.scale.Scale.{Scale}

-- a call of a scale, but for `close`; `Look` is one that only reads
pub data Call : Type 0 where
  Open : (text : List ℕ) → Call
  Sample : (counts : ℤ) → Call
  Byte : (byte : ℕ) → Call
  Look : Call
  Inputs : (inputs : ℕ) → Call
  Load : (text : List ℕ) → Call
  Change : (text : List ℕ) → Call
  Scan : (ms : ℕ) → Call

-- what belongs to the customer's part: inputs, loads, changes and scans
abbrev pub is_customers : Call → Bool
is_customers (Inputs inputs) = true
is_customers (Load text) = true
is_customers (Change text) = true
is_customers (Scan ms) = true
is_customers call = false

-- the calls without it
abbrev pub legal_calls : List Call → List Call
legal_calls calls = filter (λ call. not (is_customers call)) calls

-- the legal state: what has come but for the inputs and the program
abbrev pub legal_part : Came → Came
legal_part came = record came { inputs = 0; program = None }

-- the scale represents the plate and this legal state, whatever else has come
pub record HasLegalState (scale : Scale) (plate : PlateData) (state : Came) : Type 0 where
  pub came : Came
  pub represents : Represents scale plate came
  pub same : state ≡ legal_part came

-- ---- the fold
-- what a call leaves of the legal state: a sample that the sensor can give, and a byte, come to it
abbrev pub after_call : Call → Came → Came
after_call (Sample counts) state = if is_between least_sample greatest_sample counts then with_sample counts state else state
after_call (Byte byte) state = with_byte byte state
after_call call state = state

-- what the line answers to a call: to a byte, which may complete a request
abbrev pub answer_to_call : PlateData → Call → Came → List ℕ
answer_to_call plate (Byte byte) state = answers_to plate (requests_in state.bytes (byte ∷ [])) state.history
answer_to_call plate call state = []

abbrev pub after_calls : List Call → Came → Came
after_calls [] state = state
after_calls (call ∷ calls) state = after_call call (after_calls calls state)

abbrev pub answers_to_calls : PlateData → List Call → Came → List ℕ
answers_to_calls plate [] state = []
answers_to_calls plate (call ∷ calls) state = answers_to_calls plate calls state ++ answer_to_call plate call (after_calls calls state)

-- ---- the calls
-- what the clauses of a call say of the scale before it, the scale after it, and the bytes that it answers
abbrev pub IsMade : Call → Scale → Scale → List ℕ → Type 0
IsMade (Open text) old new bytes = (reported : Refusal) × TakesOpen new text reported × RefusesOpen old new text reported × (bytes ≡ [])
IsMade (Sample counts) old new bytes = (status : ℕ) × TakesSample old new counts status × RefusesSample old new counts status × (bytes ≡ [])
IsMade (Byte byte) old new bytes = (answer : Answer) × TakesByte old new byte answer × RefusesByte old new answer × (bytes ≡ take answer.length answer.bytes)
IsMade Look old new bytes = (new ≡ old) × (bytes ≡ [])
IsMade (Inputs inputs) old new bytes = (status : ℕ) × TakesInputs old new inputs status × RefusesInputs old new status × (bytes ≡ [])
IsMade (Load text) old new bytes = (reported : Refusal) × TakesLoad old new text reported × RefusesLoad old new text reported × (bytes ≡ [])
IsMade (Change text) old new bytes = (reported : Refusal) × TakesChange old new text reported × RefusesChange old new text reported × (bytes ≡ [])
IsMade (Scan ms) old new bytes = (scanned : Scanned) × TakesScan old new ms scanned × RefusesScan old new ms scanned × (bytes ≡ [])

-- each is made on the scale that the one before it has left
abbrev pub AreMade : List Call → Scale → Scale → List ℕ → Type 0
AreMade [] first last bytes = (last ≡ first) × (bytes ≡ [])
AreMade (call ∷ calls) first last bytes =
    (before : Scale) × (so_far : List ℕ) × (answer : List ℕ) × AreMade calls first before so_far × IsMade call before last answer × (bytes ≡ so_far ++ answer)

-- ---- what the line makes of them
-- a call leaves the legal state and answers the bytes that its step of the fold gives
abbrev pub IsStep : Call → Scale → Scale → List ℕ → Type 0
IsStep call old new bytes = (plate : PlateData) (state : Came) → HasLegalState old plate state →
    HasLegalState new plate (after_call call state) × (bytes ≡ answer_to_call plate call state)

-- each call does so, by its clauses
abbrev pub EachCallIsAStep : Type 0
EachCallIsAStep = (call : Call) (old new : Scale) (bytes : List ℕ) → IsMade call old new bytes → IsStep call old new bytes

-- whatever calls are made: the legal state and the answers are those of the calls without the customer's
abbrev pub CustomersCallsHaveNoPart : Type 0
CustomersCallsHaveNoPart = (plate : PlateData) (state : Came) (calls : List Call) (first last : Scale) (bytes : List ℕ) →
    HasLegalState first plate state → AreMade calls first last bytes →
    HasLegalState last plate (after_calls (legal_calls calls) state) × (bytes ≡ answers_to_calls plate (legal_calls calls) state)

-- calls on two scales that differ in the customer's alone leave one legal state, and answer the same bytes
abbrev pub LegalCallsDecide : Type 0
LegalCallsDecide = (plate : PlateData) (state : Came) (calls others : List Call) (first last other end : Scale) (bytes answers : List ℕ) →
    HasLegalState first plate state → HasLegalState other plate state → legal_calls calls ≡ legal_calls others →
    AreMade calls first last bytes → AreMade others other end answers →
    ((left : Came) × HasLegalState last plate left × HasLegalState end plate left) × (bytes ≡ answers)

-- whatever calls were made before a byte: they and the byte answer what the line answers to the calls without the customer's
abbrev pub AnswersWithoutTheCustomer : Scale → ℕ → Answer → Type 0
AnswersWithoutTheCustomer old byte answer = (plate : PlateData) (state : Came) (calls : List Call) (first : Scale) (so_far : List ℕ) →
    HasLegalState first plate state → AreMade calls first old so_far →
    so_far ++ take answer.length answer.bytes ≡ answers_to_calls plate (Byte byte ∷ legal_calls calls) state
