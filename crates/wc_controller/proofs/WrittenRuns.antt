-- What is said of the bytes that were written of a run, from its log to its inputs.
use Rattle.wc_model.proofs.Common.{◌≡◌, refl, ℕ, ◌≤◌, Bool, List, length, Option, Some, None, Result, Ok, Err, sym, subst, ◌∙◌, Appends, Keeps}
use Rattle.std.specs.Prelude.{◌≢◌, IfErr, IfSome}
use Rattle.std.specs.Result.{IsErr, IsErrAnd}
use Rattle.wc_controller.proofs.Allowing.{of_known, on_known}
use Rattle.wc_controller.specs.{EndsAfter, EndsAfterFault, EndsRefused, IsAt, begin_fault_input, ending_of, fault_ending, fault_raised, raised, InputStates, Reader, AreReadOf, IfKnown, IsNextLoadedOf, OfLogic, log_by, EndsSaying, EndsUnwritten, IsUnwritten, OfRun, OfStart, OnEnd, OnRefusal, says_of}
use Rattle.wc_controller.specs.declared.ending.Ending.{Ending}
use Rattle.wc_controller.specs.declared.ending.Ending.TheVariants as ended
use Rattle.wc_job.specs.declared.input.Input.{Input}
use Rattle.wc_job.specs.declared.input.Input.TheVariants as input
use Rattle.wc_controller.specs.declared.ending.InputFault.{InputFault}
use Rattle.wc_cost.specs.LoadedTexts.{LoadedText}
use Rattle.wc_model.specs.Definitions.{plate_of, PlateData, IsLoaded, Text, text_view, longest_job, LogOf, refused_text, Logic, first_logic}
use Rattle.wc_plate.specs.TomlTable.{table_read}
use Rattle.wc_run.proofs.HandedOn.{propagated}
use Rattle.wc_run.specs.{Ended, EndsWhole, text_of_next, RefusesToBegin, Start}
use Rattle.wc_run.specs.declared.fault.RunFault.{RunFault}
use Rattle.wc_run.specs.declared.fault.RunFault.TheVariants.{Refused, Read, Write, Memory}

-- of the end of a run that stopped before its log nothing is said
pub stopped_before : (said : Type 0) (stopped : InputFault) (result : Result (Unit {0}) InputFault) → IsErr result × IsErrAnd result (λ e. e ≡ stopped)
    → (stopped.input ≡ input.Log → ⊥) → OnEnd result said
stopped_before said stopped result gives elsewhere = propagated (λ r. OnEnd r said) stopped result gives (λ at. absurd (elsewhere at))

-- what was not written to is unwritten
pub unwritten_still : {X : Type 0} (result : Result X InputFault) (taken : Option (List ℕ)) → IsUnwritten result taken taken
unwritten_still (Ok done) taken = tt
unwritten_still (Err stopped) taken = λ elsewhere. refl

-- a log that was not cut short
pub log_ended : (said : Ended) (start : Start) (plate : PlateData) (logic : Option Logic) (log_of : List ℕ → LogOf) (fault : RunFault) (known : Option (List ℕ)) (taken : Option (List ℕ))
    → IfSome known (λ bytes. EndsWhole said start plate logic (log_of bytes) (Err fault) taken)
    → OnRefusal fault (IfSome known (λ bytes. says_of said taken start plate logic (log_of bytes)))
log_ended said start plate logic log_of (Refused number place) known taken h = h
log_ended said start plate logic log_of fault known taken h = tt

-- a run that ended as its log did
pub run_ended : (said : Ended) (start : Start) (plate : PlateData) (logic : Option Logic) (log_of : List ℕ → LogOf) (answer : Result ℕ RunFault) (stop : Result (Unit {0}) InputFault)
    (known : Option (List ℕ)) (taken : Option (List ℕ)) → raised stop ≡ fault_raised answer → IfSome known (λ bytes. EndsWhole said start plate logic (log_of bytes) answer taken)
    → OnEnd stop (IfSome known (λ bytes. says_of said taken start plate logic (log_of bytes)))
run_ended said start plate logic log_of (Ok count) (Ok done) known taken e h = h
run_ended said start plate logic log_of (Ok count) (Err stopped) known taken e h = absurd (cc (e))
run_ended said start plate logic log_of (Err fault) (Ok done) known taken e h = absurd (cc (e))
run_ended said start plate logic log_of (Err fault) (Err stopped) known taken e h = λ at.
    let same : fault ≡ stopped.fault = cc (e) in
    subst (λ raised. OnRefusal raised (IfSome known (λ bytes. says_of said taken start plate logic (log_of bytes)))) same
    (log_ended said start plate logic log_of fault known taken h)

-- an observer that does not begin stops at the names, or out of memory
pub not_begun : (why : RunFault) (begins : Bool) (held said : Type 0) → RefusesToBegin begins held why → begin_fault_input why ≡ input.Log → OnRefusal why said
not_begun (Refused number place) begins held said h at = absurd (cc (at))
not_begun Read begins held said h at = tt
not_begun Write begins held said h at = tt
not_begun Memory begins held said h at = tt

-- more may be said
pub end_more : {X : Type 0} (answer : Result X InputFault) (P Q : Type 0) → (P → Q) → OnEnd answer P → OnEnd answer Q
end_more (Ok done) P Q f h = f h
end_more (Err stopped) P Q f h = λ at. by_fault stopped.fault (h at) where
  by_fault : (why : RunFault) → OnRefusal why P → OnRefusal why Q
  by_fault (Refused number place) k = f k
  by_fault why k = tt

-- with the next program, if there is one
pub next_logic : (first : Text) (bytes : Option (List ℕ)) (next : Option LoadedText) (said : Option Logic → Type 0) → IsNextLoadedOf bytes next
    → said (Some (first_logic first (text_of_next next))) → OfLogic first bytes said
next_logic first None None said is h = h
next_logic first None (Some loaded) said is h = absurd is
next_logic first (Some bytes) None said is h = absurd is
next_logic first (Some bytes) (Some loaded) said is h = let next : Text = text_view loaded.source in (next, is, h)

-- of inputs that were read
pub start_read : (program next : Option Reader) (text : List ℕ) (known taken : Option (List ℕ)) (first : Text) (said : Start → Option Logic → Type 0)
    → AreReadOf program (Some text) → AreReadOf next known → IsLoaded text first
    → OfLogic first known (said (record { first = Some text; next = known; taken = taken })) → OfStart program next taken said
start_read None next text known taken first said read other is h = absurd read
start_read (Some program) next text known taken first said read other is h = on_text program.bytes read.1 where
  OfText : List ℕ → Option (List ℕ) → Type 0
  OfText all bytes = (one : Text) × IsLoaded all one × OfLogic one bytes (said (record { first = Some all; next = bytes; taken = taken }))

  on_next : (next : Option Reader) (known : Option (List ℕ)) → AreReadOf next known → OfLogic first known (said (record { first = Some text; next = known; taken = taken }))
      → IfKnown next (λ bytes. OfText text bytes)
  on_next None None other h = (first, is, h)
  on_next None (Some bytes) other h = absurd other
  on_next (Some reader) None other h = absurd other
  on_next (Some reader) (Some bytes) other h = of_known reader.bytes bytes (λ all. OfText text (Some all)) other.1 (first, is, h)

  on_text : (all : Option (List ℕ)) → IfSome all (λ all. text ≡ all) → IfSome all (λ all. IfKnown next (λ bytes. OfText all bytes))
  on_text all same = of_known all text (λ all. IfKnown next (λ bytes. OfText all bytes)) same (on_next next known other h)

-- with no program
pub start_alone : (program next : Option Reader) (taken : Option (List ℕ)) (said : Start → Option Logic → Type 0) → AreReadOf program None
    → said (record { first = None; next = None; taken = taken }) None → OfStart program next taken said
start_alone None next taken said read h = h
start_alone (Some program) next taken said read h = absurd read

-- with the plate that was read
pub run_read : (inputs : InputStates) (taken : Option (List ℕ)) (plate : PlateData) (said : Start → PlateData → Option Logic → LogOf → Type 0)
    → IfSome inputs.plate.bytes (λ table. (length table ≤ longest_job) × (plate_of (table_read table) ≡ Ok plate))
    → OfStart inputs.program inputs.next taken (λ start logic. IfSome inputs.log.bytes (λ bytes. said start plate logic (log_by logic bytes)))
    → OfRun inputs taken said
run_read inputs taken plate said read h = on_known inputs.plate.bytes _ _ (λ table is. (plate, is.1, h)) read

-- a run that stopped at its log may have written
pub written_at_log : {X : Type 0} (answer : Result X InputFault) (old new : Option (List ℕ)) → IfErr answer (λ stopped. stopped.input ≡ input.Log) → IsUnwritten answer old new
written_at_log (Ok done) old new at = tt
written_at_log (Err stopped) old new at = λ elsewhere. absurd (elsewhere at)

-- so it is with the ending of such a run
pub ends_unwritten : {X : Type 0} (answer : Result X InputFault) (old new : Option (List ℕ)) → IsUnwritten answer old new → EndsUnwritten (ending_of answer) old new
ends_unwritten (Ok done) old new unwritten = tt
ends_unwritten (Err stopped) old new unwritten = by_fault stopped.fault where
  by_fault : (why : RunFault) → EndsUnwritten (fault_ending stopped.input why) old new
  by_fault (Refused number place) = unwritten
  by_fault Read = unwritten
  by_fault Write = tt
  by_fault Memory = tt

-- and if names are refused
pub unwritten_at_names : (ending : Ending) (old new : Option (List ℕ)) → IsAt input.Names ending → EndsUnwritten ending old new → new ≡ old
unwritten_at_names ended.Done old new at unwritten = absurd at
unwritten_at_names (ended.Refused input number place) old new at unwritten = unwritten (λ log. absurd (let same = sym at ∙ log in cc))
unwritten_at_names (ended.ReadFault input) old new at unwritten = unwritten (λ log. absurd (let same = sym at ∙ log in cc))
unwritten_at_names ended.WriteFault old new at unwritten = absurd at
unwritten_at_names ended.NoMemory old new at unwritten = absurd at

-- once the line of a refusal is written, or the run ended with no refusal
module _ (said : Ended) (inputs : InputStates) (old middle new : Option (List ℕ)) where
  refused_after : (at : Input) (number place : ℕ) (ending : Ending) → EndsRefused at number place ending middle new
      → (at ≡ input.Log → OfRun inputs old (says_of said middle)) → (at ≢ input.Log → middle ≡ old) → EndsSaying said inputs ending old new
  refused_after at number place ended.Done k h unwritten = absurd k
  refused_after at number place (ended.Refused other n p) k h unwritten =
      let line : Appends middle new (refused_text n p) = subst (λ one. Appends middle new (refused_text one p)) (sym k.1) (subst (λ one. Appends middle new (refused_text number one)) (sym k.2) k.3) in
      (λ is. (middle, line, h (sym k.0 ∙ is)), λ elsewhere. subst (λ before. Appends before new (refused_text n p)) (unwritten (λ is. elsewhere (k.0 ∙ is))) line)
  refused_after at number place (ended.ReadFault other) k h unwritten = absurd k
  refused_after at number place ended.WriteFault k h unwritten = tt
  refused_after at number place ended.NoMemory k h unwritten = tt

  fault_after : (at : Input) (why : RunFault) (ending : Ending) → EndsAfterFault at why ending middle new
      → (at ≡ input.Log → OnRefusal why (OfRun inputs old (says_of said middle))) → (at ≢ input.Log → middle ≡ old) → EndsSaying said inputs ending old new
  fault_after at (Refused number place) ending k h unwritten = refused_after at number place ending k h unwritten
  fault_after at Read ending k h unwritten =
      subst (λ e. EndsSaying said inputs e old new) (sym k.0) (λ elsewhere. subst (λ before. Keeps before new) (unwritten elsewhere) k.1)
  fault_after at Write ending k h unwritten = subst (λ e. EndsSaying said inputs e old new) (sym k.0) tt
  fault_after at Memory ending k h unwritten = subst (λ e. EndsSaying said inputs e old new) (sym k.0) tt

  pub run_after : {X : Type 0} (answer : Result X InputFault) (ending : Ending) → EndsAfter answer ending middle new → OnEnd answer (OfRun inputs old (says_of said middle))
      → IsUnwritten answer old middle → EndsSaying said inputs ending old new
  run_after (Ok done) ending k h unwritten = subst (λ e. EndsSaying said inputs e old new) (sym k.0) (middle, k.1, h)
  run_after (Err stopped) ending k h unwritten = fault_after stopped.input stopped.fault ending k h unwritten
