-- A refusal names the input that breaks the rule.
use Rattle.std.proofs.Common.{◌≡◌, ℕ, ◌≤◌, List, length, Result, Ok, Err, refl, sym, ◌∙◌, subst, inr}
use Rattle.std.specs.Prelude.{Option, Some, None, IfErr, IfSome, IsSome, is_some}
use Rattle.wc_controller.proofs.Allowing.{of_known, on_known}
use Rattle.wc_controller.specs.Blames.{Blames, IsNextUnloaded, IsUnloaded, RefusesLog, RefusesProgram, RefusesText, StopsFor}
use Rattle.wc_controller.specs.{EndsAfter, EndsAfterFault, EndsRefused, ReportsMemory, of_refused_log, of_unread_log, IsRefusedLoad, Reader, AreReadOf, IsNextLoadedOf, known_of, log_alongside}
use Rattle.wc_model.specs.declared.fault.Fault.{Fault}
use Rattle.wc_model.specs.declared.fault.Fault.TheVariants as fault
use Rattle.wc_cost.specs.LoadedTexts.{LoadedText}
use Rattle.wc_controller.specs.declared.ending.Ending.{Ending}
use Rattle.wc_controller.specs.declared.ending.Ending.TheVariants as ended
use Rattle.wc_job.specs.declared.input.Input.{Input}
use Rattle.wc_job.specs.declared.input.Input.TheVariants as input
use Rattle.wc_controller.specs.declared.ending.InputFault.{InputFault}
use Rattle.wc_job.specs.Views.{IsWhole}
use Rattle.wc_model.specs.Definitions.{longest_job, PlateData, Text, LogOf, Record, log_of, log_for, Logic, first_logic}
use Rattle.wc_record.specs.{records_of, records_read}
use Rattle.wc_run.specs.{from_fault, WritesBy, text_of_next, Plan, ReportsFault}
use Rattle.wc_run.specs.declared.fault.RunFault.{RunFault}
use Rattle.wc_run.specs.declared.fault.RunFault.TheVariants.{Refused, Memory}

-- a run that is refused reports the refusal of the log as it is taken, and its row
pub log_refused : (plan : Plan) (plate : PlateData) (logic : Option Logic) (taken : List ℕ → LogOf) (fields : Record) (bytes : List ℕ) (why : RunFault) (old new : Option (List ℕ))
    → WritesBy plan plate logic (taken bytes) (Err why) old new → ReportsFault (records_read bytes) fields why → RefusesLog taken fields bytes why
log_refused plan plate logic taken fields bytes (Refused number place) old new reported row = (reported.0, row)
log_refused plan plate logic taken fields bytes why old new reported row = tt

-- a machine takes the log by whether there is a next program, which is loaded
pub taken_alongside : (known : Option (List ℕ)) (next : Option LoadedText) (text : Text) (bytes : List ℕ) → IsNextLoadedOf known next
    → log_for (Some (first_logic text (text_of_next next))) (log_of (records_of bytes)) ≡ log_alongside (is_some known) bytes
taken_alongside None None text bytes is = refl
taken_alongside None (Some next) text bytes is = absurd is
taken_alongside (Some known) None text bytes is = absurd is
taken_alongside (Some known) (Some next) text bytes is = refl

-- if no text is loaded, it is refused so
pub text_refused : (bytes : List ℕ) (why : RunFault) → IsUnloaded bytes why → RefusesText bytes why
text_refused bytes (Refused number place) h = h
text_refused bytes why h = tt

-- a text's fault is that of its file
text_in_file : (bytes : List ℕ) (why : RunFault) → length bytes ≤ longest_job → RefusesText bytes why → RefusesProgram bytes why
text_in_file bytes (Refused number place) short h = inr (short, h)
text_in_file bytes why short h = tt

-- a program that was read whole
pub program_read : {X : Type 0} (at : Input) (result : Result X InputFault) (known : Option (List ℕ)) (bytes : List ℕ) → IsWhole known bytes
    → IfErr result (λ stopped. stopped.input ≡ at → RefusesText bytes stopped.fault) → StopsFor at RefusesProgram known result
program_read at (Ok done) known bytes is h = tt
program_read at (Err stopped) None bytes is h = λ e. tt
program_read at (Err stopped) (Some all) bytes is h = λ e. subst (λ those. RefusesProgram those stopped.fault) is.1 (text_in_file bytes stopped.fault is.0 (h e))

-- so of a next program
pub next_read : (next : Option Reader) (held : Option (List ℕ)) (why : RunFault) → AreReadOf next held → IsNextUnloaded held why
    → IfSome (known_of next) (λ bytes. RefusesProgram bytes why)
next_read None None why is h = absurd h
next_read None (Some bytes) why is h = absurd is
next_read (Some reader) None why is h = absurd is
next_read (Some reader) (Some bytes) why is h = of_known reader.bytes bytes (λ all. RefusesProgram all why) is.1 (text_in_file bytes why is.0 (text_refused bytes why h))

-- there is a next program if its bytes were read
pub same_next : (next : Option Reader) (held : Option (List ℕ)) → AreReadOf next held → is_some held ≡ is_some next
same_next None None is = refl
same_next None (Some bytes) is = absurd is
same_next (Some reader) None is = absurd is
same_next (Some reader) (Some bytes) is = refl

-- why a text is not loaded, as the fault of a command
pub not_loaded_why : (bytes : List ℕ) (why : Fault) → IsRefusedLoad bytes why → IsUnloaded bytes (from_fault why)
not_loaded_why bytes (fault.Refused number place) h = h
not_loaded_why bytes fault.Memory h = tt

-- a text that is not loaded is refused so
pub load_refused : (bytes : List ℕ) (why : Fault) → IsRefusedLoad bytes why → RefusesText bytes (from_fault why)
load_refused bytes (fault.Refused number place) h = h
load_refused bytes fault.Memory h = tt

-- an ending of a refusal
of_refusal : (input at : Input) (number place : ℕ) (refuses : List ℕ → RunFault → Type 0) (known : Option (List ℕ)) (ending : Ending) (old new : Option (List ℕ))
    → EndsRefused at number place ending old new → (at ≡ input → IfSome known (λ bytes. refuses bytes (Refused number place))) → Blames input refuses known ending
of_refusal input at number place refuses known (ended.Refused one other line) old new k h = λ e.
    subst (λ n. IfSome known (λ bytes. refuses bytes (Refused n line))) (sym k.1)
    (subst (λ l. IfSome known (λ bytes. refuses bytes (Refused number l))) (sym k.2) (h (sym k.0 ∙ e)))
of_refusal input at number place refuses known ending old new k h = tt

-- an ending of whatever fault
of_fault : (input at : Input) (why : RunFault) (refuses : List ℕ → RunFault → Type 0) (known : Option (List ℕ)) (ending : Ending) (old new : Option (List ℕ))
    → EndsAfterFault at why ending old new → (at ≡ input → IfSome known (λ bytes. refuses bytes why)) → Blames input refuses known ending
of_fault input at (Refused number place) refuses known ending old new k h = of_refusal input at number place refuses known ending old new k h
of_fault input at why refuses known ending old new k h = subst (λ e. Blames input refuses known e) (sym k.0) tt

-- an ending says of an input what stopped there
pub blamed : {X : Type 0} (input : Input) (refuses : List ℕ → RunFault → Type 0) (known : Option (List ℕ)) (result : Result X InputFault) (ending : Ending) (old new : Option (List ℕ))
    → EndsAfter result ending old new → StopsFor input refuses known result → Blames input refuses known ending
blamed input refuses known (Ok done) ending old new k h = subst (λ e. Blames input refuses known e) (sym k.0) tt
blamed input refuses known (Err stopped) ending old new k h = of_fault input stopped.input stopped.fault refuses known ending old new k h

-- a log that is refused has a refusal
log_has_refusal : (taken : List ℕ → LogOf) (reported : Record) (bytes : List ℕ) (number place : ℕ) → RefusesLog taken reported bytes (Refused number place) → IsSome (taken bytes).refusal
log_has_refusal taken reported bytes number place e = subst (λ refusal. IsSome refusal) (sym e.0) refl

module _ (taken : List ℕ → LogOf) (reported : Record) (known : Option (List ℕ)) (before failures start spent : ℕ) where
  -- memory was wanted for the line of a refusal
  pub after_refusal : (at : Input) (number place : ℕ) → (at ≡ input.Plate → spent ≡ start) → (at ≡ input.Program → spent ≡ start) → (at ≡ input.Next → spent ≡ start) → (at ≡ input.Names → spent ≡ start)
      → (at ≡ input.Job → ⊥) → (at ≡ input.Log → IfSome known (λ bytes. RefusesLog taken reported bytes (Refused number place)))
      → (at ≡ input.Log → failures ≤ before) → ReportsMemory taken known before failures start spent
  after_refusal input.Job number place plate program next names job log well = absurd (job refl)
  after_refusal input.Plate number place plate program next names job log well = of_unread_log (plate refl)
  after_refusal input.Program number place plate program next names job log well = of_unread_log (program refl)
  after_refusal input.Next number place plate program next names job log well = of_unread_log (next refl)
  after_refusal input.Names number place plate program next names job log well = of_unread_log (names refl)
  after_refusal input.Log number place plate program next names job log well =
      of_refused_log (on_known known (λ bytes. RefusesLog taken reported bytes (Refused number place)) (λ bytes. IsSome (taken bytes).refusal)
      (λ bytes e. log_has_refusal taken reported bytes number place e) (log refl)) (well refl)

-- they are one input
abbrev pub IsOne : Input → Input → Type 0
IsOne input.Job input.Job = Unit {0}
IsOne input.Plate input.Plate = Unit {0}
IsOne input.Program input.Program = Unit {0}
IsOne input.Next input.Next = Unit {0}
IsOne input.Log input.Log = Unit {0}
IsOne input.Names input.Names = Unit {0}
IsOne one other = ⊥

is_one : (at : Input) → IsOne at at
is_one input.Job = tt
is_one input.Plate = tt
is_one input.Program = tt
is_one input.Next = tt
is_one input.Log = tt
is_one input.Names = tt

-- what stopped at one input did not stop at another
pub one_input : (one other at : Input) → at ≡ one → at ≡ other → IsOne one other
one_input one other at first second = subst (λ i. IsOne i other) (sym second ∙ first) (is_one other)
