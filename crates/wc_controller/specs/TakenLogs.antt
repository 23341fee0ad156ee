-- What a contract says of the inputs of a run, which it may go without, of its log as a command takes it, and of the writer of its output. (The profile's own.)
use Rattle.wc_job.specs.declared.input.Input.TheVariants as input
use Rattle.std.specs.Prelude.{◌≡◌, ℕ, Bool, List, Option, Some, None, ⊤, true, false, IfSome, Result, is_some}
use Rattle.wc_model.specs.Definitions.{Logic, first_logic, IsLoaded, Text, text_view, LogOf, log_of, log_for, log_while}
use Rattle.wc_run.specs.Observing.{Plan, text_in_all}
use Rattle.wc_cost.specs.LoadedTexts.{LoadedText}
use Rattle.wc_job.specs.Views.{IsWhole}
use Rattle.wc_record.specs.{HasCause, records_of}
use Rattle.wc_controller.specs.Files.{Observed}
use Rattle.wc_controller.specs.Endings.{HasNotFailedAt, IsReadFaultAt, ReportsMemory, ReportsWriteFaults, StopsAt, raised}
use Rattle.wc_run.specs.declared.fault.RunFault.TheVariants as fault
use Rattle.wc_controller.specs.declared.ending.InputFault.{InputFault}

-- a reader: the bytes that it is going to give, if they are known; its calls that failed; the bytes that it gave and its calls, counted together
pub record Reader : Type 0 where
  pub bytes : Option (List ℕ)
  pub failures : ℕ
  pub spent : ℕ

-- the reader, by what its type says of it
abbrev pub reader_of : {R : Type 0} → (R → Option (List ℕ)) → (R → ℕ) → (R → ℕ) → R → Reader
reader_of bytes_left failure_count spent_count reader =
    record { bytes = bytes_left reader; failures = failure_count reader; spent = spent_count reader }

-- a reader that may be missing, by what its type says of it
abbrev pub optional_of : {R : Type 0} → (R → Option (List ℕ)) → (R → ℕ) → (R → ℕ) → Option R → Option Reader
optional_of bytes_left failure_count spent_count None = None
optional_of bytes_left failure_count spent_count (Some reader) = Some (reader_of bytes_left failure_count spent_count reader)

-- a writer: the bytes that it took, if they are known, and its calls that failed
pub record Writer : Type 0 where
  pub taken : Option (List ℕ)
  pub failures : ℕ

-- the writer, by what its type says of it
abbrev pub writer_of : {W : Type 0} → (W → Option (List ℕ)) → (W → ℕ) → W → Writer
writer_of bytes_taken failure_count writer = record { taken = bytes_taken writer; failures = failure_count writer }

-- an observer, by what its type says of it: what it writes, and with which logic it begins
abbrev pub observed_by : {O : Type 0} → (O → Plan) → (O → Option Logic → Bool) → O → Observed
observed_by plan begins observer = record { written = text_in_all (plan observer); begins = begins observer }

-- the inputs of a run: with no program no program runs, and the next one is not read
pub record InputStates : Type 0 where
  pub plate : Reader
  pub program : Option Reader
  pub next : Option Reader
  pub log : Reader

-- the inputs with these readers
abbrev pub inputs_of : Reader → Option Reader → Option Reader → Reader → InputStates
inputs_of plate program next log = record { plate = plate; program = program; next = next; log = log }

-- with no program: each row up to the first that breaks a rule
abbrev pub log_alone : List ℕ → LogOf
log_alone bytes = log_of (records_of bytes)

-- with this logic, or with none
abbrev pub log_by : Option Logic → List ℕ → LogOf
log_by logic bytes = log_for logic (log_of (records_of bytes))

-- with a machine, with a next program or none: up to the first that wants a further program, too
abbrev pub log_alongside : Bool → List ℕ → LogOf
log_alongside left bytes = log_while left (log_of (records_of bytes)).rows (log_of (records_of bytes)).refusal

-- with a program, with a next one or none, or alone
abbrev pub log_with : Bool → Bool → List ℕ → LogOf
log_with true left bytes = log_alongside left bytes
log_with false left bytes = log_alone bytes

-- as a run of these inputs takes it
abbrev pub log_taken : InputStates → List ℕ → LogOf
log_taken inputs = log_with (is_some inputs.program) (is_some inputs.next)

-- what is known of the bytes of a reader that may be missing
abbrev pub known_of : Option Reader → Option (List ℕ)
known_of None = None
known_of (Some reader) = reader.bytes

-- the calls of such a reader that failed, 0 if there is none
abbrev pub failures_of : Option Reader → ℕ
failures_of None = 0
failures_of (Some reader) = reader.failures

-- this holds of the bytes of such a reader, if they are known, or of none
abbrev pub IfKnown : Option Reader → (Option (List ℕ) → Type 0) → Type 0
IfKnown None holds = holds None
IfKnown (Some reader) holds = IfSome reader.bytes (λ bytes. holds (Some bytes))

-- these are all bytes of such a reader, no more than may be read, or none if there is none
abbrev pub AreReadOf : Option Reader → Option (List ℕ) → Type 0
AreReadOf None None = ⊤
AreReadOf None (Some bytes) = ⊥
AreReadOf (Some reader) None = ⊥
AreReadOf (Some reader) (Some bytes) = IsWhole reader.bytes bytes

-- the next text is loaded from its bytes, if there is one
abbrev pub IsNextLoadedOf : Option (List ℕ) → Option LoadedText → Type 0
IsNextLoadedOf None None = ⊤
IsNextLoadedOf None (Some loaded) = ⊥
IsNextLoadedOf (Some bytes) None = ⊥
IsNextLoadedOf (Some bytes) (Some loaded) = IsLoaded bytes (text_view loaded.source)

-- this holds of the logic of a first text and the next one, which is loaded from these bytes, if there is one
abbrev pub OfLogic : Text → Option (List ℕ) → (Option Logic → Type 0) → Type 0
OfLogic first None said = said (Some (first_logic first None))
OfLogic first (Some bytes) said = (next : Text) × IsLoaded bytes next × said (Some (first_logic first (Some next)))

-- this holds of the logic of these programs, if their bytes are known
abbrev pub OfPrograms : Option Reader → Option Reader → (Option Logic → Type 0) → Type 0
OfPrograms None next said = said None
OfPrograms (Some program) next said =
    IfSome program.bytes (λ text. IfKnown next (λ known. (first : Text) × IsLoaded text first × OfLogic first known said))

-- it stopped neither at a job nor at the plate nor at the program: these were read and checked before
abbrev pub IsLater : {X : Type 0} → Result X InputFault → Type 0
IsLater result = (StopsAt input.Job result → ⊥) × (StopsAt input.Plate result → ⊥) × (StopsAt input.Program result → ⊥)

-- what a run reports of its log and its writer: names that are refused leave the log unread, a read fault has a cause, out of memory is no fault of the reader, and a write fault comes if the writer failed
pub record ReportsDevices {X : Type 0} (taken : List ℕ → LogOf) (result : Result X InputFault) (old new : Reader) (failed_before failed : ℕ) : Type 0 where
  pub names : StopsAt input.Names result → new ≡ old
  pub read : IsReadFaultAt input.Log result → HasCause old.failures new.failures old.spent new.spent
  pub memory : raised result ≡ Some fault.Memory → ReportsMemory taken old.bytes old.failures new.failures old.spent new.spent
  pub reader : HasNotFailedAt input.Log result old.failures new.failures
  pub failures : ReportsWriteFaults (raised result) failed_before failed
