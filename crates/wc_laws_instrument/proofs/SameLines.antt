-- Two lines whose open requests begin alike, with histories with the same state, answer alike whatever comes.
use Rattle.wc_model.proofs.Common.{◌≡◌, ℕ, ◌<◌, Bool, true, false, ◌&&◌, List, [], ◌∷◌, ◌++◌, refl, ap, sym, subst, ◌∙◌, append_assoc, append-nil, map-append, option_to_list}
use Rattle.std.specs.Prelude.{Option, Some, None, map, option_map, is_some, ◌==◌, if◌then◌else◌}
use Rattle.wc_laws_instrument.proofs.Requests.{completed, in_chunk, open_request_after}
use Rattle.wc_laws_instrument.proofs.SameStates.{HaveSameState, same_after, same_answer, same_image, same_readings, same_tare_refusal, same_zero_refusal}
use Rattle.wc_laws_instrument.specs.Preludes.{GoesOnAlike, past_after, text_kept, timed}
use Rattle.wc_model.specs.Instrument.Answers as line_answers
use Rattle.wc_model.specs.Instrument.Answers.{AskTare, AskWeight, Clear, Command, Plain, Shown, TakeTare, TareRefused, Unknown, Zero, ZeroRefused, after_command, after_requests, answer_to, answers_to, command_of}
use Rattle.wc_model.specs.Definitions.{PlateData, carriage_return, completed_by, is_text, line_feed, open_request, opened_by, requests_in, ClearTare, History, Sample, SetTare, SetZero, Bytes, Change, Counts, Inputs, LogRow, Past, RowData, Scan, answer_with, answers_after, history_of, history_with, line_bytes, line_bytes_in, answer_line, answer_lines}
use Rattle.wc_model.specs.Run.ProcessImage.{image_after, inputs_of, inputs_with}

-- no test of a text of two bytes or more against one of a single byte passes
never : (b : Bool) → (b && false) ≡ false
never true = refl
never false = refl

-- such a text is not a command
long_is_unknown : (first second : ℕ) (rest : List ℕ) → command_of (first ∷ second ∷ rest) ≡ Unknown
long_is_unknown first second rest = λ i.
    if never (first == 87) i then AskWeight
    else if never (first == 90) i then Zero
    else if never (first == 84) i then TakeTare
    else if never (first == 77) i then AskTare
    else if never (first == 67) i then Clear
    else Unknown

-- what is kept of a text is enough to know its command
kept_command : (text : List ℕ) → command_of (text_kept text) ≡ command_of text
kept_command [] = refl
kept_command (first ∷ []) = refl
kept_command (first ∷ second ∷ rest) = sym (long_is_unknown first second rest)

-- and to know what is kept of a longer text
kept_more : (text : List ℕ) (x : ℕ) → text_kept (text ++ (x ∷ [])) ≡ text_kept (text_kept text ++ (x ∷ []))
kept_more [] x = refl
kept_more (first ∷ []) x = refl
kept_more (first ∷ second ∷ rest) x = refl

-- what is kept of the open request
abbrev pub kept : List ℕ → Option (List ℕ)
kept bytes = option_map text_kept (open_request bytes)

-- the commands of a request, if there is one
commands_kept : (o : Option (List ℕ)) → map command_of (option_to_list o) ≡ map command_of (option_to_list (option_map text_kept o))
commands_kept None = refl
commands_kept (Some text) = ap (λ c. c ∷ []) (sym (kept_command text))

-- those that a byte completes
completed_alike : (x : ℕ) (o u : Option (List ℕ)) → option_map text_kept u ≡ option_map text_kept o →
    map command_of (completed_by x u) ≡ map command_of (completed_by x o)
completed_alike x o u e = go (x == carriage_return)
  where
    go : (b : Bool) → map command_of (if b then option_to_list u else []) ≡ map command_of (if b then option_to_list o else [])
    go true = commands_kept u ∙ ap (λ k. map command_of (option_to_list k)) e ∙ sym (commands_kept o)
    go false = refl

-- what is kept of a request with one byte more
more_kept : (x : ℕ) (o : Option (List ℕ)) →
    option_map text_kept (option_map (λ text. text ++ (x ∷ [])) o)
    ≡ option_map text_kept (option_map (λ text. text ++ (x ∷ [])) (option_map text_kept o))
more_kept x None = refl
more_kept x (Some text) = ap Some (kept_more text x)

-- what is kept after one byte more
opened_alike : (x : ℕ) (o u : Option (List ℕ)) → option_map text_kept u ≡ option_map text_kept o →
    option_map text_kept (opened_by x u) ≡ option_map text_kept (opened_by x o)
opened_alike x o u e = go (x == line_feed) (is_text x)
  where
    go : (b c : Bool) →
        option_map text_kept (if b then Some [] else if c then option_map (λ text. text ++ (x ∷ [])) u else None)
        ≡ option_map text_kept (if b then Some [] else if c then option_map (λ text. text ++ (x ∷ [])) o else None)
    go true c = refl
    go false true = more_kept x u ∙ ap (λ k. option_map text_kept (option_map (λ text. text ++ (x ∷ [])) k)) e ∙ sym (more_kept x o)
    go false false = refl

-- one byte more of both
kept_after : (before other : List ℕ) (x : ℕ) → kept other ≡ kept before → kept (other ++ (x ∷ [])) ≡ kept (before ++ (x ∷ []))
kept_after before other x e =
    ap (option_map text_kept) (open_request_after other x) ∙ opened_alike x (open_request before) (open_request other) e
    ∙ ap (option_map text_kept) (sym (open_request_after before x))

-- a chunk more of both
pub kept_on : (before other chunk : List ℕ) → kept other ≡ kept before → kept (other ++ chunk) ≡ kept (before ++ chunk)
kept_on before other [] e = ap kept (append-nil other) ∙ e ∙ ap kept (sym (append-nil before))
kept_on before other (x ∷ chunk) e =
    ap kept (sym (append_assoc other (x ∷ []) chunk))
    ∙ kept_on (before ++ (x ∷ [])) (other ++ (x ∷ [])) chunk (kept_after before other x e)
    ∙ ap kept (append_assoc before (x ∷ []) chunk)

-- the commands that it completes
commands_alike : (before other chunk : List ℕ) → kept other ≡ kept before →
    map command_of (completed other chunk) ≡ map command_of (completed before chunk)
commands_alike before other [] e = refl
commands_alike before other (x ∷ chunk) e =
    map-append command_of (completed_by x (open_request other)) (completed (other ++ (x ∷ [])) chunk)
    ∙ (λ i. completed_alike x (open_request before) (open_request other) e i
    ++ commands_alike (before ++ (x ∷ [])) (other ++ (x ∷ [])) chunk (kept_after before other x e) i)
    ∙ sym (map-append command_of (completed_by x (open_request before)) (completed (before ++ (x ∷ [])) chunk))

requests_alike : (before other chunk : List ℕ) → kept other ≡ kept before →
    map command_of (requests_in other chunk) ≡ map command_of (requests_in before chunk)
requests_alike before other chunk e =
    ap (map command_of) (in_chunk other chunk) ∙ commands_alike before other chunk e ∙ ap (map command_of) (sym (in_chunk before chunk))

-- what commands do
abbrev after_all : List Command → History → History
after_all [] history = history
after_all (command ∷ commands) history = after_all commands (after_command command history)

by_commands : (texts : List (List ℕ)) (history : History) → after_requests texts history ≡ after_all (map command_of texts) history
by_commands [] history = refl
by_commands (text ∷ texts) history = by_commands texts (after_command (command_of text) history)

-- and what is answered
abbrev answers_of : PlateData → List Command → History → List ℕ
answers_of p [] history = []
answers_of p (command ∷ commands) history = answer_to p command history ++ answers_of p commands (after_command command history)

answers_by_commands : (p : PlateData) (texts : List (List ℕ)) (history : History) → answers_to p texts history ≡ answers_of p (map command_of texts) history
answers_by_commands p [] history = refl
answers_by_commands p (text ∷ texts) history =
    ap (λ r. answer_to p (command_of text) history ++ r) (answers_by_commands p texts (after_command (command_of text) history))

-- the prefix of two lists that are equal
abbrev pub first_of : {X : Type 0} → X → List X → X
first_of x [] = x
first_of x (y ∷ ys) = y

abbrev pub rest_of : {X : Type 0} → List X → List X
rest_of [] = []
rest_of (y ∷ ys) = ys

module _ (p : PlateData) (some : 0 < p.window) where
  -- a command leaves the same state
  command_leaves : (command : Command) (history other : History) → HaveSameState p history other →
      HaveSameState p (after_command command history) (after_command command other)
  command_leaves AskWeight history other same = same
  command_leaves Zero history other same = same_after p history other some same SetZero
  command_leaves TakeTare history other same = same_after p history other some same SetTare
  command_leaves AskTare history other same = same
  command_leaves Clear history other same = same_after p history other some same ClearTare
  command_leaves Unknown history other same = same

  -- and has the same answer
  command_answer : (command : Command) (history other : History) → HaveSameState p history other →
      answer_to p command other ≡ answer_to p command history
  command_answer AskWeight history other same = same_answer p history other some same Shown Plain
  command_answer Zero history other same =
      ap (λ r. line_answers.answer p (SetZero ∷ other) Shown (if is_some r then ZeroRefused else Plain)) (same_zero_refusal p history other some same)
      ∙ same_answer p (SetZero ∷ history) (SetZero ∷ other) some (same_after p history other some same SetZero) Shown (line_answers.asked_zero p history)
  command_answer TakeTare history other same =
      ap (λ r. line_answers.answer p (SetTare ∷ other) Shown (if is_some r then TareRefused else Plain)) (same_tare_refusal p history other some same)
      ∙ same_answer p (SetTare ∷ history) (SetTare ∷ other) some (same_after p history other some same SetTare) Shown (line_answers.asked_tare p history)
  command_answer AskTare history other same = same_answer p history other some same line_answers.Tare Plain
  command_answer Clear history other same =
      same_answer p (ClearTare ∷ history) (ClearTare ∷ other) some (same_after p history other some same ClearTare) Shown Plain
  command_answer Unknown history other same = refl

  commands_leave : (commands : List Command) (history other : History) → HaveSameState p history other →
      HaveSameState p (after_all commands history) (after_all commands other)
  commands_leave [] history other same = same
  commands_leave (command ∷ commands) history other same =
      commands_leave commands (after_command command history) (after_command command other) (command_leaves command history other same)

  commands_answer : (commands : List Command) (history other : History) → HaveSameState p history other →
      answers_of p commands other ≡ answers_of p commands history
  commands_answer [] history other same = refl
  commands_answer (command ∷ commands) history other same = λ i.
      command_answer command history other same i
      ++ commands_answer commands (after_command command history) (after_command command other) (command_leaves command history other same) i

  -- two scales are alike: histories, line bytes and inputs
  pub record AreAlike (history : History) (bytes : List ℕ) (inputs : ℕ) (history' : History) (bytes' : List ℕ) (inputs' : ℕ) : Type 0 where
    pub states : HaveSameState p history history'
    pub lines : kept bytes' ≡ kept bytes
    pub same_inputs : inputs' ≡ inputs

  -- two runs are alike after rows so far
  abbrev pub ArePastsAlike : Past → Past → Type 0
  ArePastsAlike past past' = AreAlike (history_of past) (line_bytes past) (inputs_of past) (history_of past') (line_bytes past') (inputs_of past')

  -- no bytes more
  no_more : (bytes bytes' : List ℕ) → kept bytes' ≡ kept bytes → kept (bytes' ++ []) ≡ kept (bytes ++ [])
  no_more bytes bytes' e = kept_on bytes bytes' [] e

  -- after the same row they are alike
  alike_with : (brings : RowData) (history : History) (bytes : List ℕ) (inputs : ℕ) (history' : History) (bytes' : List ℕ) (inputs' : ℕ) →
      AreAlike history bytes inputs history' bytes' inputs' →
      AreAlike (history_with brings bytes history) (bytes ++ line_bytes_in brings) (inputs_with brings inputs)
      (history_with brings bytes' history') (bytes' ++ line_bytes_in brings) (inputs_with brings inputs')
  alike_with (Counts counts) history bytes inputs history' bytes' inputs' alike = record {
    states = same_after p history history' some alike.states (Sample counts);
    lines = no_more bytes bytes' alike.lines;
    same_inputs = alike.same_inputs;
  }
  alike_with (Bytes chunk) history bytes inputs history' bytes' inputs' alike = record {
    states =
        let same : HaveSameState p (after_all (map command_of (requests_in bytes chunk)) history) (after_all (map command_of (requests_in bytes chunk)) history') =
        commands_leave (map command_of (requests_in bytes chunk)) history history' alike.states in
        let here : after_requests (requests_in bytes chunk) history ≡ after_all (map command_of (requests_in bytes chunk)) history =
        by_commands (requests_in bytes chunk) history in
        let there : after_requests (requests_in bytes' chunk) history' ≡ after_all (map command_of (requests_in bytes chunk)) history' =
        by_commands (requests_in bytes' chunk) history' ∙ ap (λ c. after_all c history') (requests_alike bytes bytes' chunk alike.lines) in
        subst (λ h. HaveSameState p (after_requests (requests_in bytes chunk) history) h) (sym there)
        (subst (λ h. HaveSameState p h (after_all (map command_of (requests_in bytes chunk)) history')) (sym here) same);
    lines = kept_on bytes bytes' chunk alike.lines;
    same_inputs = alike.same_inputs;
  }
  alike_with (Inputs new) history bytes inputs history' bytes' inputs' alike =
      record { states = alike.states; lines = no_more bytes bytes' alike.lines; same_inputs = refl }
  alike_with Scan history bytes inputs history' bytes' inputs' alike =
      record { states = alike.states; lines = no_more bytes bytes' alike.lines; same_inputs = alike.same_inputs }
  alike_with Change history bytes inputs history' bytes' inputs' alike =
      record { states = alike.states; lines = no_more bytes bytes' alike.lines; same_inputs = alike.same_inputs }

  -- and answer it alike
  pub answers_alike : (brings : RowData) (past past' : Past) → ArePastsAlike past past' →
      answer_with p brings (line_bytes past') (history_of past') ≡ answer_with p brings (line_bytes past) (history_of past)
  answers_alike (Counts counts) past past' alike = refl
  answers_alike (Bytes chunk) past past' alike =
      answers_by_commands p (requests_in (line_bytes past') chunk) (history_of past')
      ∙ ap (λ c. answers_of p c (history_of past')) (requests_alike (line_bytes past) (line_bytes past') chunk alike.lines)
      ∙ commands_answer (map command_of (requests_in (line_bytes past) chunk)) (history_of past) (history_of past') alike.states
      ∙ sym (answers_by_commands p (requests_in (line_bytes past) chunk) (history_of past))
  answers_alike (Inputs new) past past' alike = refl
  answers_alike Scan past past' alike = refl
  answers_alike Change past past' alike = refl

  -- one row more, of any number
  pub alike_row : (past past' : Past) (row other : LogRow) → other.brings ≡ row.brings → ArePastsAlike past past' → ArePastsAlike (row ∷ past) (other ∷ past')
  alike_row past past' row other e alike =
      subst (λ brings. AreAlike (history_with row.brings (line_bytes past) (history_of past)) (line_bytes past ++ line_bytes_in row.brings) (inputs_with row.brings (inputs_of past))
      (history_with brings (line_bytes past') (history_of past')) (line_bytes past' ++ line_bytes_in brings) (inputs_with brings (inputs_of past')))
      (sym e) (alike_with row.brings (history_of past) (line_bytes past) (inputs_of past) (history_of past') (line_bytes past') (inputs_of past') alike)

  row_answer : (past past' : Past) (row other : LogRow) → other.brings ≡ row.brings → ArePastsAlike past past' →
      answer_with p other.brings (line_bytes past') (history_of past') ≡ answer_with p row.brings (line_bytes past) (history_of past)
  row_answer past past' row other e alike =
      ap (λ brings. answer_with p brings (line_bytes past') (history_of past')) e ∙ answers_alike row.brings past past' alike

  -- rows that differ in their numbers alone
  pub pasts_alike : (past past' : Past) (rows others : List LogRow) → timed others ≡ timed rows → ArePastsAlike past past' →
      ArePastsAlike (past_after past rows) (past_after past' others)
  pasts_alike past past' [] [] e alike = alike
  pasts_alike past past' [] (other ∷ others) e alike = absurd (cc)
  pasts_alike past past' (row ∷ rows) [] e alike = absurd (cc)
  pasts_alike past past' (row ∷ rows) (other ∷ others) e alike =
      pasts_alike (row ∷ past) (other ∷ past') rows others (ap rest_of e)
      (alike_row past past' row other (ap (λ l. (first_of {X = ℕ × RowData} (row.ms, row.brings) l).1) e) alike)

  all_answers : (past past' : Past) (rows others : List LogRow) → timed others ≡ timed rows → ArePastsAlike past past' →
      answers_after p past' others ≡ answers_after p past rows
  all_answers past past' [] [] e alike = refl
  all_answers past past' [] (other ∷ others) e alike = absurd (cc)
  all_answers past past' (row ∷ rows) [] e alike = absurd (cc)
  all_answers past past' (row ∷ rows) (other ∷ others) e alike =
      let brings : other.brings ≡ row.brings = ap (λ l. (first_of {X = ℕ × RowData} (row.ms, row.brings) l).1) e in
      λ i. row_answer past past' row other brings alike i
      ∷ all_answers (row ∷ past) (other ∷ past') rows others (ap rest_of e) (alike_row past past' row other brings alike) i

  all_lines : (past past' : Past) (rows others : List LogRow) → timed others ≡ timed rows → ArePastsAlike past past' →
      answer_lines p past' others ≡ answer_lines p past rows
  all_lines past past' [] [] e alike = refl
  all_lines past past' [] (other ∷ others) e alike = absurd (cc)
  all_lines past past' (row ∷ rows) [] e alike = absurd (cc)
  all_lines past past' (row ∷ rows) (other ∷ others) e alike =
      let brings : other.brings ≡ row.brings = ap (λ l. (first_of {X = ℕ × RowData} (row.ms, row.brings) l).1) e in
      let time : other.ms ≡ row.ms = ap (λ l. (first_of {X = ℕ × RowData} (row.ms, row.brings) l).0) e in
      λ i. answer_line (time i) (row_answer past past' row other brings alike i)
      ++ all_lines (row ∷ past) (other ∷ past') rows others (ap rest_of e) (alike_row past past' row other brings alike) i

  pub image_alike : (past past' : Past) → ArePastsAlike past past' → image_after p past' ≡ image_after p past
  image_alike past past' alike = same_image p (history_of past) (history_of past') some alike.states (inputs_of past) (inputs_of past') alike.same_inputs

  pub goes_on : (past past' : Past) (rows others : List LogRow) → timed others ≡ timed rows → ArePastsAlike past past' →
      GoesOnAlike p past past' rows others
  goes_on past past' rows others e alike =
      let after : ArePastsAlike (past_after past rows) (past_after past' others) = pasts_alike past past' rows others e alike in
      record {
        answers = all_answers past past' rows others e alike;
        lines = all_lines past past' rows others e alike;
        readings = same_readings p (history_of (past_after past rows)) (history_of (past_after past' others)) some after.states;
        image = image_alike (past_after past rows) (past_after past' others) after;
      }
