-- How a run ends, once the line of a refusal is written after it.
use Rattle.std.proofs.Common.{◌≡◌, List, ℕ, inl, inr, refl, subst, sym, ◌∙◌}
use Rattle.std.specs.Prelude.{Option, Some, None}
use Rattle.wc_controller.proofs.Allowing.{known_more, on_known}
use Rattle.wc_controller.proofs.StoppedInputs.{no_read_fault}
use Rattle.wc_controller.specs.{EndsRefused, IsEndedBy, IsFaulty, AnswersLine, AnswersRun, Observed, OfAnswersTo, ReadsInOrder, InputStates, Reader}
use Rattle.wc_controller.specs.declared.ending.Ending.{Ending}
use Rattle.wc_controller.specs.declared.ending.Ending.TheVariants as ended
use Rattle.wc_job.specs.declared.input.Input.{Input}
use Rattle.wc_job.specs.declared.input.Input.TheVariants as input
use Rattle.wc_model.specs.Definitions.{Record, JobAnswer}

-- what follows of what is said of the answers is said of them too
pub answers_more : (o : Observed) (plate : Reader) (program next : Option Reader) (log : Reader) (P Q : (JobAnswer → Type 0) → Type 0)
    → ((allowed : JobAnswer → Type 0) → P allowed → Q allowed) → OfAnswersTo o plate program next log P → OfAnswersTo o plate program next log Q
answers_more o plate None next log P Q f h =
    on_known plate.bytes _ _
    (λ table reported. on_known log.bytes _ _
    (λ bytes said. f (AnswersLine o table bytes) said) reported) h
answers_more o plate (Some program) next log P Q f h =
    on_known plate.bytes _ _
    (λ table reported. on_known program.bytes _ _
    (λ text more. known_more next _ _
    (λ known then. on_known log.bytes _ _
    (λ bytes said. f (AnswersRun o table text known bytes) said) then) more) reported) h

-- a refusal whose line was to be written
pub refused_shown : (input : Input) (number place : ℕ) (shown : Ending) (old new : Option (List ℕ)) → EndsRefused input number place shown old new → IsEndedBy (ended.Refused input number place) shown
refused_shown input number place ended.Done old new h = absurd h
refused_shown input number place (ended.Refused at other line) old new h = inl (λ i. ended.Refused (h.0 i) (h.1 i) (h.2 i))
refused_shown input number place (ended.ReadFault at) old new h = absurd h
refused_shown input number place ended.WriteFault old new h = inr (inl refl)
refused_shown input number place ended.NoMemory old new h = inr (inr refl)

module _ (before after : InputStates) (reported : Record) where
  -- a fault of a write names no input
  at_write : (ran : Ending) → ReadsInOrder before after reported ran → ReadsInOrder before after reported ended.WriteFault
  at_write ran h = record {
    blames_plate = tt;
    blames_program = tt;
    blames_next = tt;
    blames_log = tt;
    no_job = λ at. at;
    program_there = λ at. absurd at;
    next_there = λ at. absurd at;
    unread_after_plate = λ at. absurd at;
    unread_after_program = λ at. absurd at;
    unread_after_next = λ at. absurd at;
    unread_after_names = λ at. absurd at;
    unread_alone = h.unread_alone;
    log_fault = λ e. absurd (no_read_fault input.Log ended.WriteFault (λ at. at) e);
    log_read = tt;
    taken = h.taken;
  }

  -- nor does running out of memory
  at_memory : (ran : Ending) → ReadsInOrder before after reported ran → ReadsInOrder before after reported ended.NoMemory
  at_memory ran h = record {
    blames_plate = tt;
    blames_program = tt;
    blames_next = tt;
    blames_log = tt;
    no_job = λ at. at;
    program_there = λ at. absurd at;
    next_there = λ at. absurd at;
    unread_after_plate = λ at. absurd at;
    unread_after_program = λ at. absurd at;
    unread_after_next = λ at. absurd at;
    unread_after_names = λ at. absurd at;
    unread_alone = h.unread_alone;
    log_fault = λ e. absurd (no_read_fault input.Log ended.NoMemory (λ at. at) e);
    log_read = tt;
    taken = h.taken;
  }

  -- so what is said of the inputs stays, whatever fault follows
  pub inputs_shown : (ran shown : Ending) → IsEndedBy ran shown → ReadsInOrder before after reported ran → ReadsInOrder before after reported shown
  inputs_shown ran shown (inl e) h = subst (λ one. ReadsInOrder before after reported one) (sym e) h
  inputs_shown ran shown (inr (inl e)) h = subst (λ one. ReadsInOrder before after reported one) (sym e) (at_write ran h)
  inputs_shown ran shown (inr (inr e)) h = subst (λ one. ReadsInOrder before after reported one) (sym e) (at_memory ran h)

-- a fault of what is shown is not a read fault
pub faulty_untold : (at : Input) (shown : Ending) → IsFaulty shown → shown ≡ ended.ReadFault at → ⊥
faulty_untold at shown (inl w) e = no_read_fault at ended.WriteFault (λ h. h) (sym w ∙ e)
faulty_untold at shown (inr m) e = no_read_fault at ended.NoMemory (λ h. h) (sym m ∙ e)
