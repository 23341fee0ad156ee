-- How a run ends once the line of a refusal is written.
use Rattle.std.proofs.Common.{◌≡◌, List, ℕ, Ok, Err, inl, inr, refl, ap, ◌∙◌, sym, arith}
use Rattle.std.specs.Prelude.{Option, Result}
use Rattle.wc_controller.proofs.Blaming.{after_refusal}
use Rattle.wc_controller.proofs.Givings.{ends}
use Rattle.wc_controller.proofs.ShownEndings.{answers_more, faulty_untold, inputs_shown, refused_shown}
use Rattle.wc_controller.specs.{EndsAs, EndsAfter, EndsAfterFault, ReportsFailures, ReportsMemory, ReportsReadEndings, WritesUpTo, ending_of, fault_ending, raised, status_of, IsEndedBy, Observed, ReadsInOrder, RunsAs, RunsUpTo, InputStates, Reader, Writer, log_taken}
use Rattle.wc_controller.specs.declared.ending.Ending.{Ending}
use Rattle.wc_controller.specs.declared.ending.Ending.TheVariants as ended
use Rattle.wc_job.specs.declared.input.Input.{Input}
use Rattle.wc_job.specs.declared.input.Input.TheVariants as input
use Rattle.wc_controller.specs.declared.ending.InputFault.{InputFault}
use Rattle.wc_model.specs.Run.Log.{Record}
use Rattle.wc_run.specs.declared.fault.RunFault.{RunFault}
use Rattle.wc_run.specs.declared.fault.RunFault.TheVariants.{Refused, Read, Write, Memory}

-- it ends as it stopped, or with a fault of the refusal's line
fault_ended : (at : Input) (why : RunFault) (ending : Ending) (old new : Option (List ℕ)) → EndsAfterFault at why ending old new → IsEndedBy (fault_ending at why) ending
fault_ended at (Refused number place) ending old new k = refused_shown at number place ending old new k
fault_ended at Read ending old new k = inl k.0
fault_ended at Write ending old new k = inl k.0
fault_ended at Memory ending old new k = inl k.0

ended_by : (answer : Result (Unit {0}) InputFault) (ending : Ending) (old new : Option (List ℕ)) → EndsAfter answer ending old new → IsEndedBy (ending_of answer) ending
ended_by (Ok done) ending old new k = inl k.0
ended_by (Err stopped) ending old new k = fault_ended stopped.input stopped.fault ending old new k

-- a read fault stays one
fault_stays : (at other : Input) (why : RunFault) (ending : Ending) (old new : Option (List ℕ)) → EndsAfterFault at why ending old new
    → fault_ending at why ≡ ended.ReadFault other → ending ≡ ended.ReadFault other
fault_stays at other (Refused number place) ending old new k e = absurd (omega (arith, ap status_of e))
fault_stays at other Read ending old new k e = k.0 ∙ e
fault_stays at other Write ending old new k e = k.0 ∙ e
fault_stays at other Memory ending old new k e = k.0 ∙ e

read_stays : (answer : Result (Unit {0}) InputFault) (other : Input) (ending : Ending) (old new : Option (List ℕ)) → EndsAfter answer ending old new
    → ending_of answer ≡ ended.ReadFault other → ending ≡ ended.ReadFault other
read_stays (Ok done) other ending old new k e = k.0 ∙ e
read_stays (Err stopped) other ending old new k e = fault_stays stopped.input other stopped.fault ending old new k e

-- and none comes after it
read_came : (other : Input) (ran ending : Ending) → IsEndedBy ran ending → ending ≡ ended.ReadFault other → ran ≡ ended.ReadFault other
read_came other ran ending by e = came by where
  came : IsEndedBy ran ending → ran ≡ ended.ReadFault other
  came (inl same) = sym same ∙ e
  came (inr faulty) = absurd (faulty_untold other ending faulty e)

reads_ended : (answer : Result (Unit {0}) InputFault) (other : Input) (ending : Ending) (old new : Option (List ℕ)) (before after : ℕ) → EndsAfter answer ending old new
    → ReportsReadEndings other (ending_of answer) before after → ReportsReadEndings other ending before after
reads_ended answer other ending old new before after k h =
    (λ e. h.0 (read_came other (ending_of answer) ending (ended_by answer ending old new k) e), λ no. h.1 (λ e. no (read_stays answer other ending old new k e)))

module _ (before after : InputStates) (reported : Record) where
  abbrev pub ReportsLog : Type 0
  ReportsLog = ReportsMemory (log_taken before) before.log.bytes before.log.failures after.log.failures before.log.spent after.log.spent

  -- out of memory comes from it, or from the line of a refusal
  memory_after : (at : Input) (why : RunFault) (ending : Ending) (old new : Option (List ℕ)) → EndsAfterFault at why ending old new
      → ReadsInOrder before after reported (fault_ending at why) → (fault_ending at why ≡ ended.NoMemory → ReportsLog) → ending ≡ ended.NoMemory → ReportsLog
  memory_after at (Refused number place) ending old new k h memory e =
      after_refusal (log_taken before) reported before.log.bytes before.log.failures after.log.failures before.log.spent after.log.spent at number place
      (λ is. ap (λ (log : Reader). log.spent) ((h.unread_after_plate is).2)) (λ is. ap (λ (log : Reader). log.spent) ((h.unread_after_program is).1))
      (λ is. ap (λ (log : Reader). log.spent) (h.unread_after_next is)) (λ is. ap (λ (log : Reader). log.spent) (h.unread_after_names is)) h.no_job h.blames_log h.log_read
  memory_after at Read ending old new k h memory e = absurd (omega (arith, ap status_of (sym k.0 ∙ e)))
  memory_after at Write ending old new k h memory e = absurd (omega (arith, ap status_of (sym k.0 ∙ e)))
  memory_after at Memory ending old new k h memory e = memory refl

  memory_ended : (answer : Result (Unit {0}) InputFault) (ending : Ending) (old new : Option (List ℕ)) → EndsAfter answer ending old new
      → ReadsInOrder before after reported (ending_of answer) → (ending_of answer ≡ ended.NoMemory → ReportsLog) → ending ≡ ended.NoMemory → ReportsLog
  memory_ended (Ok done) ending old new k h memory e = absurd (omega (arith, ap status_of (sym k.0 ∙ e)))
  memory_ended (Err stopped) ending old new k h memory e = memory_after stopped.input stopped.fault ending old new k h memory e

-- a run, and its ending
pub run_ended : (o : Observed) (before after : InputStates) (reported : Record) (answer : Result (Unit {0}) InputFault) (ending : Ending) (old middle new : Writer)
    → RunsUpTo o before after reported answer old middle → EndsAfter answer ending middle.taken new.taken → ReportsFailures ending old.failures new.failures
    → RunsAs o before after reported ending old new
run_ended o before after reported answer ending old middle new h k failures = record {
  ends = answers_more o before.plate before.program before.next before.log (λ allowed. WritesUpTo allowed (raised answer) old.taken middle.taken) (λ allowed. EndsAs allowed ending old.taken new.taken)
      (λ allowed upto. ends allowed answer ending old.taken middle.taken new.taken upto k) h.writes;
  inputs = inputs_shown before after reported (ending_of answer) ending (ended_by answer ending middle.taken new.taken k) h.inputs;
  readers = record {
    plate = reads_ended answer input.Plate ending middle.taken new.taken before.plate.failures after.plate.failures k h.readers.plate;
    program = reads_ended answer input.Program ending middle.taken new.taken _ _ k h.readers.program;
    next = reads_ended answer input.Next ending middle.taken new.taken _ _ k h.readers.next;
  };
  memory = memory_ended before after reported answer ending middle.taken new.taken k h.inputs h.memory;
  failures = failures;
}
