-- One byte of the stream.
use Rattle.wc_model.proofs.Common.{◌≡◌, ℕ, Bool, true, false, ◌==◌, List, [], ◌∷◌, ◌++◌, refl, ap, sym, ◌∙◌, subst, append-nil, option_to_list, Appends, Appends-nil}
use Rattle.std.specs.Prelude.{Option, Some, None, map, option_map, if◌then◌else◌}
use Rattle.wc_model.specs.Definitions.{PlateData, History, carriage_return, open_request, requests_in, completed_by, opened_by, TakesPrefix}
use Rattle.wc_model.specs.Instrument.Answers as line_answers
use Rattle.wc_laws_instrument.proofs.Requests.{requests_in_byte, open_request_after}
use Rattle.wc_indicator.specs.Kept.{IndicatorState, RepresentsHistory}
use Rattle.wc_sma.specs.declared.command.RequestStart.{RequestStart}
use Rattle.wc_sma.specs.declared.command.Command.{Command}
use Rattle.wc_sma.specs.declared.line.Line.{Line}
use Rattle.wc_sma.specs.Seen.{seen_in, command_view, completes}
use Rattle.wc_sma.specs.Feeding.{RepresentsBytes, Feeds, Fails}

-- what is seen is seen of a text
seen_text : (o : Option (List ℕ)) (seen : RequestStart) → Some seen ≡ option_map seen_in o → (text : List ℕ) × (o ≡ Some text) × (seen ≡ seen_in text)
seen_text None seen e = absurd (cc)
seen_text (Some text) seen e = (text, refl, cc)

-- if nothing is seen, there is no text
unseen_text : (o : Option (List ℕ)) → None ≡ option_map seen_in o → o ≡ None
unseen_text None e = refl
unseen_text (Some text) e = absurd (cc)

-- the requests that a byte completes, one or none
completed_list : (byte : ℕ) (o : Option (List ℕ)) → completed_by byte o ≡ option_to_list (completes byte o)
completed_list byte o = go (byte == carriage_return)
  where
    go : (b : Bool) → (if b then option_to_list o else []) ≡ option_to_list (if b then o else None)
    go true = refl
    go false = refl

-- the same after what has come
completed_after : (before : List ℕ) (byte : ℕ) (o : Option (List ℕ)) → completes byte (open_request before) ≡ o →
    requests_in before (byte ∷ []) ≡ option_to_list o
completed_after before byte o e = requests_in_byte before byte ∙ completed_list byte (open_request before) ∙ ap option_to_list e

-- the command of the request that a byte completes
pub command_after : (before : List ℕ) (byte : ℕ) (seen : RequestStart) (command : Command) → Some seen ≡ option_map seen_in (completes byte (open_request before)) →
    ((text : List ℕ) → seen ≡ seen_in text → command_view command ≡ line_answers.command_of text) →
    command_view command ∷ [] ≡ map line_answers.command_of (requests_in before (byte ∷ []))
command_after before byte seen command was asks =
    let found = seen_text (completes byte (open_request before)) seen was in
    ap (λ k. k ∷ []) (asks found.0 found.2) ∙ ap (map line_answers.command_of) (sym (completed_after before byte (Some found.0) found.1))

-- and none if it completes none
pub no_command_after : (before : List ℕ) (byte : ℕ) → None ≡ option_map seen_in (completes byte (open_request before)) →
    [] ≡ map line_answers.command_of (requests_in before (byte ∷ []))
no_command_after before byte was =
    ap (map line_answers.command_of) (sym (completed_after before byte None (unseen_text (completes byte (open_request before)) was)))

module _ (line line' : Line) (indicator indicator' : IndicatorState) (taken taken' : Option (List ℕ)) (byte : ℕ) where
  -- what the line sees of a request is carried over a byte
  abbrev pub Carries : Type 0
  Carries = (text : Option (List ℕ)) → line.started ≡ option_map seen_in text → line'.started ≡ option_map seen_in (opened_by byte text)

  -- the line after a byte
  still_represents : Carries → line'.failed ≡ false → (before : List ℕ) → RepresentsBytes line before → RepresentsBytes line' (before ++ (byte ∷ []))
  still_represents now works before s = (now (open_request before) s.0 ∙ ap (option_map seen_in) (sym (open_request_after before byte)), works)

  -- a byte that completes nothing
  pub feeds_without : Carries → line'.failed ≡ false →
      ((text : Option (List ℕ)) → line.started ≡ option_map seen_in text → None ≡ option_map seen_in (completes byte text)) →
      Feeds line indicator taken line' indicator taken (byte ∷ [])
  feeds_without now works was = record {
    represents = still_represents now works;
    acts = λ before p history s st. subst (λ r. RepresentsHistory indicator p (line_answers.after_requests r history)) (sym (none before s)) st;
    answers = λ before p history s st. subst (λ r. Appends taken taken (line_answers.answers_to p r history)) (sym (none before s)) (Appends-nil taken);
  }
    where
      none : (before : List ℕ) → RepresentsBytes line before → requests_in before (byte ∷ []) ≡ []
      none before s = completed_after before byte None (unseen_text (completes byte (open_request before)) (was (open_request before) s.0))

  module _ (seen : RequestStart) (command : Command)
      (was : (text : Option (List ℕ)) → line.started ≡ option_map seen_in text → Some seen ≡ option_map seen_in (completes byte text))
      (asks : (text : List ℕ) → seen ≡ seen_in text → command_view command ≡ line_answers.command_of text)
      (acted : (p : PlateData) (history : History) → RepresentsHistory indicator p history → RepresentsHistory indicator' p (line_answers.after_command (command_view command) history)) where
    -- the text of the request that is completed
    found : (before : List ℕ) → RepresentsBytes line before →
        (text : List ℕ) × (completes byte (open_request before) ≡ Some text) × (seen ≡ seen_in text)
    found before s = seen_text (completes byte (open_request before)) seen (was (open_request before) s.0)

    -- it is the one request
    one : (before : List ℕ) (s : RepresentsBytes line before) → requests_in before (byte ∷ []) ≡ (found before s).0 ∷ []
    one before s = completed_after before byte (Some (found before s).0) (found before s).1

    -- what it asks is acted on
    acts_on : (before : List ℕ) (p : PlateData) (history : History) (s : RepresentsBytes line before) → RepresentsHistory indicator p history →
        RepresentsHistory indicator' p (line_answers.after_command (line_answers.command_of (found before s).0) history)
    acts_on before p history s st =
        subst (λ k. RepresentsHistory indicator' p (line_answers.after_command k history)) (asks (found before s).0 (found before s).2) (acted p history st)

    -- a byte that completes a request, if its answer is written in full
    pub feeds_with : Carries → line'.failed ≡ false →
        ((p : PlateData) (history : History) → RepresentsHistory indicator p history → Appends taken taken' (line_answers.answer_to p (command_view command) history)) →
        Feeds line indicator taken line' indicator' taken' (byte ∷ [])
    feeds_with now works whole = record {
      represents = still_represents now works;
      acts = λ before p history s st.
          subst (λ r. RepresentsHistory indicator' p (line_answers.after_requests r history)) (sym (one before s)) (acts_on before p history s st);
      answers = λ before p history s st.
          subst (λ r. Appends taken taken' (line_answers.answers_to p r history)) (sym (one before s))
          (subst (λ t. Appends taken taken' t) (sym (append-nil (line_answers.answer_to p (line_answers.command_of (found before s).0) history)))
          (subst (λ k. Appends taken taken' (line_answers.answer_to p k history)) (asks (found before s).0 (found before s).2) (whole p history st)));
    }

    -- and if it is not
    pub fails_with : line'.failed ≡ true →
        ((p : PlateData) (history : History) → RepresentsHistory indicator p history → TakesPrefix taken taken' (line_answers.answer_to p (command_view command) history)) →
        Fails line indicator taken line' indicator' taken' (byte ∷ [])
    fails_with failed part = record {
      failed = failed;
      cut = λ before p history s st. record {
        done = [];
        next = (found before s).0;
        left = [];
        in_order = one before s;
        acts = acts_on before p history s st;
        written = (part p history st).prefix;
        unwritten = (part p history st).rest;
        in_parts = ap (λ k. line_answers.answer_to p k history) (sym (asks (found before s).0 (found before s).2)) ∙ (part p history st).cut;
        short = (part p history st).short;
        answers = (part p history st).taken;
      };
    }
