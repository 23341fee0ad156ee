-- Bytes on the line of a scale bring the same, however they are cut, and what is kept of all that has come brings it back.
use Rattle.std.proofs.Common.{refl, ℕ, List, Option, ◌≡◌, ◌++◌, ap, sym, ◌∙◌, append_assoc, arith, subst}
use Rattle.wc_indicator.specs.Kept.{IndicatorState}
use Rattle.wc_run.specs.{Answers, IsCutShortAt, with_bytes, Goes, BytesAreCutAnywhere}
use Rattle.wc_run.specs.declared.open_scale.OpenScale.{OpenScale}
use Rattle.wc_sma.specs.Feeding.{Fails, Feeds}
use Rattle.wc_sma.specs.declared.line.Line.{Line}
use Rattle.wc_laws_instrument.proofs.Answers.{after_more_requests}
use Rattle.wc_laws_instrument.proofs.Requests.{requests_in_again}
use Rattle.wc_model.specs.Definitions.{after_requests, requests_in, History, PlateData, IsPlate, Past}
use Rattle.wc_laws_instrument.proofs.CutLogs.{can_be_cut}
use Rattle.wc_laws_instrument.specs.Preludes.{BringsBack, ScaleState, prelude_of, scale_state}

-- a line that is fed takes them
pub takes_bytes : {S : Type 0} (old : OpenScale S) (line : Line) (indicator : IndicatorState) (taken taken' : Option (List ℕ)) (bytes : List ℕ) →
    Feeds old.line old.indicator taken line indicator taken' bytes → Goes old (record old { indicator = indicator; line = line }) (with_bytes bytes)
takes_bytes old line indicator taken taken' bytes feeds plate came represents =
    record {
      is_plate = represents.is_plate;
      indicator = feeds.acts came.bytes plate came.history represents.line represents.indicator;
      line = feeds.represents came.bytes represents.line;
      inputs = represents.inputs;
      program = represents.program;
    }

-- and answers them
pub answers_bytes : {S : Type 0} (old : OpenScale S) (line : Line) (indicator : IndicatorState) (taken taken' : Option (List ℕ)) (bytes : List ℕ) →
    Feeds old.line old.indicator taken line indicator taken' bytes → Answers old bytes taken taken'
answers_bytes old line indicator taken taken' bytes feeds plate came represents = feeds.answers came.bytes plate came.history represents.line represents.indicator

-- a line that fails is cut short
pub cuts_short : {S : Type 0} (old : OpenScale S) (line : Line) (indicator : IndicatorState) (taken taken' : Option (List ℕ)) (bytes : List ℕ) →
    Fails old.line old.indicator taken line indicator taken' bytes → IsCutShortAt old (record old { indicator = indicator; line = line }) bytes taken taken'
cuts_short old line indicator taken taken' bytes fails =
    record {
      failed = fails.failed;
      cut = λ plate came represents. fails.cut came.bytes plate came.history represents.line represents.indicator;
      inputs = refl;
      machine = refl;
    }

-- the requests of the second chunk act after those of the first
same_history : (before first second : List ℕ) (history : History) →
    after_requests (requests_in (before ++ first) second) (after_requests (requests_in before first) history) ≡ after_requests (requests_in before (first ++ second)) history
same_history before first second history =
    sym (ap (λ texts. after_requests texts history) (requests_in_again before first second)
    ∙ after_more_requests (requests_in before first) (requests_in (before ++ first) second) history)

pub bytes_are_cut_anywhere : BytesAreCutAnywhere
bytes_are_cut_anywhere first second came = λ i.
    record came { history = same_history came.bytes first second came.history i; bytes = append_assoc came.bytes first second i }

-- the state that the rows so far have left, and the plate's window
pub kept_brings_back : (plate : PlateData) (past : Past) (window : ℕ) (state : ScaleState) → window ≡ plate.window → state ≡ scale_state plate past →
    IsPlate plate → BringsBack plate past (prelude_of window state)
kept_brings_back plate past window state wide same is_plate =
    subst (λ w. BringsBack plate past (prelude_of w state)) (sym wide)
    (subst (λ s. BringsBack plate past (prelude_of plate.window s)) (sym same)
    (can_be_cut plate (omega (arith, is_plate.window_in_range.0)) past).brings_back)
