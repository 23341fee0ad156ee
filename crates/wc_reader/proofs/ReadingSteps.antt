-- What is reported at a token of the walk.
use Rattle.std.proofs.Common.{◌≡◌, ℕ, Bool, false, List, ◌∷◌, Option, Some, None, option_map, refl, ap, ◌∙◌}
use Rattle.wc_laws_grammar.specs.Moves.{Raised, State, colon_next, fault_at, move}
use Rattle.wc_model.specs.Definitions.{Mark, UnexpectedToken}
use Rattle.wc_model.specs.declared.fault.Fault.{Fault}
use Rattle.wc_model.specs.declared.fault.Fault.TheVariants.{Memory, Refused}
use Rattle.wc_text_bodies.specs.Views.{fault_of, Stopping, walk}
use Rattle.wc_reader.specs.Reported.{IsUnexpected, StopsWith, ReportsFault}
use Rattle.wc_text_bodies.proofs.WalkSteps.{after_fault, after_move, step, unjudged}

-- a detected fault is reported as such
detected : (state : State) (mark : Mark) (following : List Mark) (colon : Bool) (fault : Fault) (raised : Option Raised) → colon_next following false ≡ colon → fault_at state mark.symbol mark.line colon ≡ raised
    → Some fault ≡ option_map fault_of raised → StopsWith state (mark ∷ following) fault
detected state mark following colon fault None e j h = cc
detected state mark following colon fault (Some raised) e j h =
    let reported : fault ≡ fault_of raised = cc in
    rw reported (record {
      raised = raised;
      stops = λ last.
          step state mark following last colon e
          ∙ ap (λ d. after_fault state d (after_move state (move state mark.symbol mark.line colon) following last mark.line)) j;
      number_is = refl;
      place_is = refl;
    })

-- at a token with a fault
pub at_fault : (state : State) (mark : Mark) (following : List Mark) (colon : Bool) (fault : Fault) → colon_next following false ≡ colon
    → Some fault ≡ option_map fault_of (fault_at state mark.symbol mark.line colon) → StopsWith state (mark ∷ following) fault
at_fault state mark following colon fault e h = detected state mark following colon fault (fault_at state mark.symbol mark.line colon) e refl h

-- at a token with which no text goes on
pub at_unexpected : (state : State) (mark : Mark) (following : List Mark) (colon : Bool) (fault : Fault) → colon_next following false ≡ colon
    → None ≡ option_map fault_of (fault_at state mark.symbol mark.line colon) → IsUnexpected (move state mark.symbol mark.line colon) mark.line fault
    → StopsWith state (mark ∷ following) fault
at_unexpected state mark following colon Memory e h k = tt
at_unexpected state mark following colon (Refused number place) e h k = record {
  raised = record { fault = UnexpectedToken; line = mark.line };
  stops = λ last. rw (step state mark following last colon e, unjudged (fault_at state mark.symbol mark.line colon) h, k.0) refl;
  number_is = k.1;
  place_is = k.2;
}

-- what stops the walk is what it reports
pub stopped_as : (state : State) (marks : List Mark) (last : ℕ) (fault : Fault) → StopsWith state marks fault → ReportsFault (walk state marks last).reported fault
stopped_as state marks last Memory h = tt
stopped_as state marks last (Refused number place) h = record { raised = h.raised; outcome_is = ap (λ (s : Stopping). s.reported) (h.stops last); number_is = h.number_is; place_is = h.place_is }
