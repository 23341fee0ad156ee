-- Chunks joined.
use Rattle.wc_model.proofs.Common.{ℕ, List, [], ◌∷◌, ◌++◌, ap, sym, ◌∙◌, subst, append_assoc, Appends, Appends-trans}
use Rattle.std.specs.Prelude.{Option}
use Rattle.wc_model.specs.Definitions.{requests_in, after_requests, answers_to, answer_to, command_of}
use Rattle.wc_laws_instrument.proofs.Requests.{requests_in_again}
use Rattle.wc_laws_instrument.proofs.Answers.{after_more_requests, answers_to_more}
use Rattle.wc_indicator.specs.Kept.{IndicatorState, RepresentsHistory}
use Rattle.wc_sma.specs.declared.line.Line.{Line}
use Rattle.wc_sma.specs.Feeding.{RepresentsBytes, Feeds, Fails, IsCutShort}

module _ (line middle line' : Line) (indicator between indicator' : IndicatorState) (taken more taken' : Option (List ℕ)) (first second : List ℕ)
    (fed : Feeds line indicator taken middle between more first) where
  -- a chunk after a chunk
  pub feeds_on : Feeds middle between more line' indicator' taken' second → Feeds line indicator taken line' indicator' taken' (first ++ second)
  feeds_on next = record {
    represents = λ before s. subst (λ b. RepresentsBytes line' b) (append_assoc before first second) (next.represents (before ++ first) (fed.represents before s));
    acts = λ before p history s st.
        subst (λ h. RepresentsHistory indicator' p h)
        (sym (after_more_requests (requests_in before first) (requests_in (before ++ first) second) history)
        ∙ ap (λ r. after_requests r history) (sym (requests_in_again before first second)))
        (next.acts (before ++ first) p (after_requests (requests_in before first) history) (fed.represents before s) (fed.acts before p history s st));
    answers = λ before p history s st.
        subst (λ t. Appends taken taken' t)
        (sym (answers_to_more p (requests_in before first) (requests_in (before ++ first) second) history)
        ∙ ap (λ r. answers_to p r history) (sym (requests_in_again before first second)))
        (Appends-trans taken more taken' (answers_to p (requests_in before first) history)
        (answers_to p (requests_in (before ++ first) second) (after_requests (requests_in before first) history))
        (fed.answers before p history s st)
        (next.answers (before ++ first) p (after_requests (requests_in before first) history) (fed.represents before s) (fed.acts before p history s st)));
  }

  -- a chunk that fails after a chunk
  pub fails_on : Fails middle between more line' indicator' taken' second → Fails line indicator taken line' indicator' taken' (first ++ second)
  fails_on next = record {
    failed = next.failed;
    cut = λ before p history s st.
        let done : List (List ℕ) = requests_in before first in
        let later : IsCutShort p (requests_in (before ++ first) second) (after_requests done history) indicator' more taken' =
        next.cut (before ++ first) p (after_requests done history) (fed.represents before s) (fed.acts before p history s st) in
        record {
          done = done ++ later.done;
          next = later.next;
          left = later.left;
          in_order = requests_in_again before first second ∙ ap (λ r. done ++ r) later.in_order
              ∙ sym (append_assoc done later.done (later.next ∷ later.left));
          acts = subst (λ h. RepresentsHistory indicator' p h)
              (sym (after_more_requests done (later.done ++ (later.next ∷ [])) history)
              ∙ ap (λ r. after_requests r history) (sym (append_assoc done later.done (later.next ∷ [])))) later.acts;
          written = later.written;
          unwritten = later.unwritten;
          in_parts = ap (λ h. answer_to p (command_of later.next) h) (after_more_requests done later.done history) ∙ later.in_parts;
          short = later.short;
          answers = subst (λ t. Appends taken taken' t)
              (sym (append_assoc (answers_to p done history) (answers_to p later.done (after_requests done history)) later.written)
              ∙ ap (λ t. t ++ later.written) (sym (answers_to_more p done later.done history)))
              (Appends-trans taken more taken' (answers_to p done history) (answers_to p later.done (after_requests done history) ++ later.written)
              (fed.answers before p history s st) later.answers);
        };
  }

-- what follows a failed chunk is not looked at
pub fails_early : (line line' : Line) (indicator indicator' : IndicatorState) (taken taken' : Option (List ℕ)) (first second : List ℕ) →
    Fails line indicator taken line' indicator' taken' first → Fails line indicator taken line' indicator' taken' (first ++ second)
fails_early line line' indicator indicator' taken taken' first second failing = record {
  failed = failing.failed;
  cut = λ before p history s st.
      let early : IsCutShort p (requests_in before first) history indicator' taken taken' = failing.cut before p history s st in
      record {
        done = early.done;
        next = early.next;
        left = early.left ++ requests_in (before ++ first) second;
        in_order = requests_in_again before first second ∙ ap (λ r. r ++ requests_in (before ++ first) second) early.in_order
            ∙ append_assoc early.done (early.next ∷ early.left) (requests_in (before ++ first) second);
        acts = early.acts;
        written = early.written;
        unwritten = early.unwritten;
        in_parts = early.in_parts;
        short = early.short;
        answers = early.answers;
      };
}
