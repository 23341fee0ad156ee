-- A log can be cut: the rows of its prelude, read by a new scale, can be put in the place of the rows before the cut.
use Rattle.wc_model.proofs.Common.{◌≡◌, ℕ, zero, suc, ◌+◌, ◌-◌, ◌*◌, ◌<◌, ◌≤◌, Bool, true, false, ◌&&◌, List, [], ◌∷◌, ◌++◌, length, map, refl, ap, sym, subst, ◌∙◌, arith, append_assoc, append-nil, signed_Decides, list_all, option_or, option_to_list, int_eq}
use Rattle.std.proofs.lemmas.List.{length-append, length-drop, length-map, length-replicate}
use Rattle.std.specs.Prelude.{ℤ, ◌+ℤ◌, Option, Some, None, codes, option_map, replicate, if◌then◌else◌, ◌==◌}
use Rattle.wc_laws_instrument.proofs.Preludes.{again, before_samples, state_brought, tare_history, with_samples, zero_history}
use Rattle.wc_laws_instrument.proofs.Requests.{in_chunk, open_after_feed, open_request_after, text_completes_nothing}
use Rattle.wc_laws_instrument.proofs.SameLines.{AreAlike, ArePastsAlike, goes_on, kept}
use Rattle.wc_laws_instrument.proofs.SameStates.{HaveSameState}
use Rattle.wc_laws_instrument.specs.Preludes.{BringsBack, CanBeCut, at_load, brought_by, input_rows, load_rows, moved_zero, past_after, prelude_of, request_rows, scale_state, tare_load, text_kept}
use Rattle.wc_model.specs.Definitions.{after_requests, active_tare, window_of, zero_point, PlateData, carriage_return, is_text, line_feed, open_at, open_request, requests_in, History, Sample, SetTare, SetZero, samples, Bytes, Counts, LogRow, Past, RowData, history_of, history_with, line_bytes, line_bytes_in}
use Rattle.wc_model.specs.Run.ProcessImage.{inputs_of, inputs_with}

-- what rows leave of a history, of the line's bytes and of the inputs
abbrev history_on : List RowData → List ℕ → History → History
history_on [] bytes history = history
history_on (row ∷ rows) bytes history = history_on rows (bytes ++ line_bytes_in row) (history_with row bytes history)

abbrev bytes_on : List RowData → List ℕ → List ℕ
bytes_on [] bytes = bytes
bytes_on (row ∷ rows) bytes = bytes_on rows (bytes ++ line_bytes_in row)

abbrev inputs_on : List RowData → ℕ → ℕ
inputs_on [] inputs = inputs
inputs_on (row ∷ rows) inputs = inputs_on rows (inputs_with row inputs)

-- the rows of a log leave that
history_by : (past : Past) (rows : List LogRow) → history_of (past_after past rows) ≡ history_on (brought_by rows) (line_bytes past) (history_of past)
history_by past [] = refl
history_by past (row ∷ rows) = history_by (row ∷ past) rows

bytes_by : (past : Past) (rows : List LogRow) → line_bytes (past_after past rows) ≡ bytes_on (brought_by rows) (line_bytes past)
bytes_by past [] = refl
bytes_by past (row ∷ rows) = bytes_by (row ∷ past) rows

inputs_by : (past : Past) (rows : List LogRow) → inputs_of (past_after past rows) ≡ inputs_on (brought_by rows) (inputs_of past)
inputs_by past [] = refl
inputs_by past (row ∷ rows) = inputs_by (row ∷ past) rows

-- rows after rows
history_append : (xs ys : List RowData) (bytes : List ℕ) (history : History) →
    history_on (xs ++ ys) bytes history ≡ history_on ys (bytes_on xs bytes) (history_on xs bytes history)
history_append [] ys bytes history = refl
history_append (row ∷ xs) ys bytes history = history_append xs ys (bytes ++ line_bytes_in row) (history_with row bytes history)

bytes_append : (xs ys : List RowData) (bytes : List ℕ) → bytes_on (xs ++ ys) bytes ≡ bytes_on ys (bytes_on xs bytes)
bytes_append [] ys bytes = refl
bytes_append (row ∷ xs) ys bytes = bytes_append xs ys (bytes ++ line_bytes_in row)

inputs_append : (xs ys : List RowData) (inputs : ℕ) → inputs_on (xs ++ ys) inputs ≡ inputs_on ys (inputs_on xs inputs)
inputs_append [] ys inputs = refl
inputs_append (row ∷ xs) ys inputs = inputs_append xs ys (inputs_with row inputs)

-- these rows lead from one history to another, and leave no request open if none was
record LeadTo (rows : List RowData) (history after : History) : Type 0 where
  pub leads : (bytes : List ℕ) → history_on rows bytes history ≡ after
  pub shut : (bytes : List ℕ) → open_request bytes ≡ None → open_request (bytes_on rows bytes) ≡ None

nothing_leads : (history : History) → LeadTo [] history history
nothing_leads history = record { leads = λ bytes. refl; shut = λ bytes e. e }

then_leads : (xs ys : List RowData) (history middle after : History) → LeadTo xs history middle → LeadTo ys middle after → LeadTo (xs ++ ys) history after
then_leads xs ys history middle after first second = record {
  leads = λ bytes. history_append xs ys bytes history ∙ ap (history_on ys (bytes_on xs bytes)) (first.leads bytes) ∙ second.leads (bytes_on xs bytes);
  shut = λ bytes e. ap open_request (bytes_append xs ys bytes) ∙ second.shut (bytes_on xs bytes) (first.shut bytes e);
}

-- a row with no bytes
quiet_shut : (bytes : List ℕ) → open_request bytes ≡ None → open_request (bytes ++ []) ≡ None
quiet_shut bytes e = ap open_request (append-nil bytes) ∙ e

-- samples
samples_lead : (xs : List ℤ) (history : History) → LeadTo (map Counts xs) history (with_samples xs history)
samples_lead [] history = nothing_leads history
samples_lead (x ∷ xs) history = record {
  leads = λ bytes. (samples_lead xs (Sample x ∷ history)).leads (bytes ++ []);
  shut = λ bytes e. (samples_lead xs (Sample x ∷ history)).shut (bytes ++ []) (quiet_shut bytes e);
}

-- the same sample again and again
again_inside : (n : ℕ) (counts : ℤ) (history : History) → again n counts (Sample counts ∷ history) ≡ Sample counts ∷ again n counts history
again_inside zero counts history = refl
again_inside (suc n) counts history = ap (λ h. Sample counts ∷ h) (again_inside n counts history)

again_leads : (n : ℕ) (counts : ℤ) (history : History) → LeadTo (replicate n (Counts counts)) history (again n counts history)
again_leads zero counts history = nothing_leads history
again_leads (suc n) counts history = record {
  leads = λ bytes. (again_leads n counts (Sample counts ∷ history)).leads (bytes ++ []) ∙ again_inside n counts history;
  shut = λ bytes e. (again_leads n counts (Sample counts ∷ history)).shut (bytes ++ []) (quiet_shut bytes e);
}

-- the bytes of one request of one letter
module _ (letter : ℕ) (text : is_text letter ≡ true) where
  abbrev whole_request : List ℕ
  whole_request = line_feed ∷ letter ∷ carriage_return ∷ []

  opened : (bytes : List ℕ) → open_request ((bytes ++ (line_feed ∷ [])) ++ (letter ∷ [])) ≡ Some (letter ∷ [])
  opened bytes = ap open_request (append_assoc bytes (line_feed ∷ []) (letter ∷ []))
      ∙ open_after_feed bytes (letter ∷ []) (ap (λ b. b && true) text)

  one_request : (bytes : List ℕ) → (letter == carriage_return) ≡ false → requests_in bytes whole_request ≡ (letter ∷ []) ∷ []
  one_request bytes other =
      in_chunk bytes whole_request
      ∙ ap (λ b. (if b then option_to_list (open_request (bytes ++ (line_feed ∷ []))) else []) ++ (option_to_list (open_request ((bytes ++ (line_feed ∷ [])) ++ (letter ∷ []))) ++ [])) other
      ∙ ap (λ o. option_to_list o ++ []) (opened bytes)

  request_shut : (bytes : List ℕ) → open_request (bytes ++ whole_request) ≡ None
  request_shut bytes =
      ap open_request (sym (append_assoc bytes (line_feed ∷ []) (letter ∷ carriage_return ∷ []))
      ∙ sym (append_assoc (bytes ++ (line_feed ∷ [])) (letter ∷ []) (carriage_return ∷ [])))
      ∙ open_request_after ((bytes ++ (line_feed ∷ [])) ++ (letter ∷ [])) carriage_return

-- zero is set, if it has to be
zero_request : (history : History) → LeadTo (Bytes (line_feed ∷ codes "Z" ++ (carriage_return ∷ [])) ∷ []) history (SetZero ∷ history)
zero_request history = record {
  leads = λ bytes. ap (λ r. after_requests r history) (one_request 90 refl bytes refl);
  shut = λ bytes e. request_shut 90 refl bytes;
}

tare_request : (history : History) → LeadTo (Bytes (line_feed ∷ codes "T" ++ (carriage_return ∷ [])) ∷ []) history (SetTare ∷ history)
tare_request history = record {
  leads = λ bytes. ap (λ r. after_requests r history) (one_request 84 refl bytes refl);
  shut = λ bytes e. request_shut 84 refl bytes;
}

zero_leads : (p : PlateData) (point : ℤ) → LeadTo (load_rows p.window (codes "Z") (moved_zero p point)) [] (zero_history p (int_eq point p.zero_counts) point)
zero_leads p point = go (int_eq point p.zero_counts)
  where
    go : (same : Bool) → LeadTo (load_rows p.window (codes "Z") (if same then None else Some point)) [] (zero_history p same point)
    go true = nothing_leads []
    go false =
        then_leads (replicate p.window (Counts point)) (Bytes (line_feed ∷ codes "Z" ++ (carriage_return ∷ [])) ∷ []) [] (again p.window point [])
        (SetZero ∷ again p.window point []) (again_leads p.window point []) (zero_request (again p.window point []))

tare_leads : (p : PlateData) (point : ℤ) (tare : Option ℤ) (before : History) → LeadTo (load_rows p.window (codes "T") (tare_load point tare)) before (tare_history p point tare before)
tare_leads p point None before = nothing_leads before
tare_leads p point (Some tare) before =
    then_leads (replicate p.window (Counts (point +ℤ tare))) (Bytes (line_feed ∷ codes "T" ++ (carriage_return ∷ [])) ∷ []) before
    (again p.window (point +ℤ tare) before) (SetTare ∷ again p.window (point +ℤ tare) before)
    (again_leads p.window (point +ℤ tare) before) (tare_request (again p.window (point +ℤ tare) before))

inputs_lead : (inputs : ℕ) (history : History) → LeadTo (input_rows inputs) history history
inputs_lead zero history = nothing_leads history
inputs_lead (suc inputs) history = record { leads = λ bytes. refl; shut = λ bytes e. quiet_shut bytes e }

-- what is kept of an open request is text
open_is_text : (bytes : List ℕ) (text : List ℕ) → open_request bytes ≡ Some text → list_all is_text text ≡ true
open_is_text [] text e = absurd (cc)
open_is_text (byte ∷ rest) text e = go (λ t f. open_is_text rest t f) (open_request rest) refl e
  where
    at : (b : Bool) → (list_all is_text rest ≡ b) → (c : Bool) → (if c && b then Some rest else None) ≡ Some text → list_all is_text text ≡ true
    at true is true f = let same : rest ≡ text = ap (λ o. elim o [ None ↦ text | Some t ↦ t ]) f in ap (list_all is_text) (sym same) ∙ is
    at true is false f = absurd (cc)
    at false is true f = absurd (cc)
    at false is false f = absurd (cc)

    go : ((t : List ℕ) → open_request rest ≡ Some t → list_all is_text t ≡ true) → (o : Option (List ℕ)) → open_request rest ≡ o →
        option_or o (open_at byte rest) ≡ Some text → list_all is_text text ≡ true
    go known (Some inner) u f = known text (u ∙ f)
    go known None u f = at (list_all is_text rest) refl (byte == line_feed) f

kept_is_text : (text : List ℕ) → list_all is_text text ≡ true → list_all is_text (text_kept text) ≡ true
kept_is_text [] h = refl
kept_is_text (a ∷ []) h = h
kept_is_text (a ∷ b ∷ rest) h = refl

kept_twice : (text : List ℕ) → text_kept (text_kept text) ≡ text_kept text
kept_twice [] = refl
kept_twice (a ∷ []) = refl
kept_twice (a ∷ b ∷ rest) = refl

-- the open request's bytes ask for nothing, and are open
request_leaves : (o : Option (List ℕ)) → ((text : List ℕ) → o ≡ Some text → list_all is_text text ≡ true) → (bytes : List ℕ) (history : History) →
    history_on (request_rows (option_map text_kept o)) bytes history ≡ history
request_leaves None known bytes history = refl
request_leaves (Some text) known bytes history =
    ap (λ r. after_requests r history)
    (in_chunk bytes (line_feed ∷ text_kept text)
    ∙ text_completes_nothing (bytes ++ (line_feed ∷ [])) (text_kept text) (kept_is_text text (known text refl)))

request_opens : (o : Option (List ℕ)) → ((text : List ℕ) → o ≡ Some text → list_all is_text text ≡ true) → (bytes : List ℕ) → open_request bytes ≡ None →
    kept (bytes_on (request_rows (option_map text_kept o)) bytes) ≡ option_map text_kept o
request_opens None known bytes none = ap (option_map text_kept) none
request_opens (Some text) known bytes none =
    ap (option_map text_kept) (open_after_feed bytes (text_kept text) (kept_is_text text (known text refl))) ∙ ap Some (kept_twice text)

-- the inputs of the rows
same_inputs : (n inputs : ℕ) (counts : ℤ) → inputs_on (replicate n (Counts counts)) inputs ≡ inputs
same_inputs zero inputs counts = refl
same_inputs (suc n) inputs counts = same_inputs n inputs counts

sample_inputs : (xs : List ℤ) (inputs : ℕ) → inputs_on (map Counts xs) inputs ≡ inputs
sample_inputs [] inputs = refl
sample_inputs (x ∷ xs) inputs = sample_inputs xs inputs

load_inputs : (n inputs : ℕ) (letter : List ℕ) (counts : ℤ) → inputs_on (at_load n letter counts) inputs ≡ inputs
load_inputs n inputs letter counts =
    inputs_append (replicate n (Counts counts)) (Bytes (line_feed ∷ letter ++ (carriage_return ∷ [])) ∷ []) inputs ∙ same_inputs n inputs counts

zero_inputs : (p : PlateData) (point : ℤ) (inputs : ℕ) → inputs_on (load_rows p.window (codes "Z") (moved_zero p point)) inputs ≡ inputs
zero_inputs p point inputs = go (int_eq point p.zero_counts)
  where
    go : (same : Bool) → inputs_on (load_rows p.window (codes "Z") (if same then None else Some point)) inputs ≡ inputs
    go true = refl
    go false = load_inputs p.window inputs (codes "Z") point

tare_inputs : (p : PlateData) (point : ℤ) (tare : Option ℤ) (inputs : ℕ) → inputs_on (load_rows p.window (codes "T") (tare_load point tare)) inputs ≡ inputs
tare_inputs p point None inputs = refl
tare_inputs p point (Some tare) inputs = load_inputs p.window inputs (codes "T") (point +ℤ tare)

set_inputs : (inputs : ℕ) → inputs_on (input_rows inputs) 0 ≡ inputs
set_inputs zero = refl
set_inputs (suc inputs) = refl

request_inputs : (o : Option (List ℕ)) (inputs : ℕ) → inputs_on (request_rows o) inputs ≡ inputs
request_inputs None inputs = refl
request_inputs (Some text) inputs = refl

module _ (p : PlateData) (some : 0 < p.window) (history : History) (bytes : List ℕ) (inputs : ℕ) where
  abbrev samples_part : List RowData
  samples_part = load_rows p.window (codes "Z") (moved_zero p (zero_point p history)) ++ load_rows p.window (codes "T") (tare_load (zero_point p history) (active_tare p history)) ++ map Counts (window_of p history)

  abbrev same_zero : Bool
  same_zero = int_eq (zero_point p history) p.zero_counts

  samples_there : LeadTo samples_part [] (with_samples (window_of p history) (before_samples p some history same_zero))
  samples_there =
      then_leads (load_rows p.window (codes "Z") (moved_zero p (zero_point p history)) ++ load_rows p.window (codes "T") (tare_load (zero_point p history) (active_tare p history))) (map Counts (window_of p history)) []
      (before_samples p some history same_zero) (with_samples (window_of p history) (before_samples p some history same_zero))
      (then_leads (load_rows p.window (codes "Z") (moved_zero p (zero_point p history))) (load_rows p.window (codes "T") (tare_load (zero_point p history) (active_tare p history))) [] (zero_history p same_zero (zero_point p history))
      (before_samples p some history same_zero) (zero_leads p (zero_point p history))
      (tare_leads p (zero_point p history) (active_tare p history) (zero_history p same_zero (zero_point p history))))
      (samples_lead (window_of p history) (before_samples p some history same_zero))

  abbrev inputs_part : List RowData
  inputs_part = samples_part ++ input_rows inputs

  inputs_there : LeadTo inputs_part [] (with_samples (window_of p history) (before_samples p some history same_zero))
  inputs_there =
      then_leads samples_part (input_rows inputs) [] (with_samples (window_of p history) (before_samples p some history same_zero))
      (with_samples (window_of p history) (before_samples p some history same_zero)) samples_there
      (inputs_lead inputs (with_samples (window_of p history) (before_samples p some history same_zero)))

  abbrev request_part : List RowData
  request_part = request_rows (option_map text_kept (open_request bytes))

  -- what the whole prelude leaves
  history_there : history_on (inputs_part ++ request_part) [] [] ≡ with_samples (window_of p history) (before_samples p some history same_zero)
  history_there = history_append inputs_part request_part [] []
      ∙ request_leaves (open_request bytes) (open_is_text bytes) (bytes_on inputs_part []) (history_on inputs_part [] [])
      ∙ inputs_there.leads []

  request_there : kept (bytes_on (inputs_part ++ request_part) []) ≡ kept bytes
  request_there = ap kept (bytes_append inputs_part request_part [])
      ∙ request_opens (open_request bytes) (open_is_text bytes) (bytes_on inputs_part []) (inputs_there.shut [] refl)

  input_there : inputs_on (inputs_part ++ request_part) 0 ≡ inputs
  input_there =
      inputs_append inputs_part request_part 0 ∙ request_inputs (option_map text_kept (open_request bytes)) (inputs_on inputs_part 0)
      ∙ inputs_append samples_part (input_rows inputs) 0
      ∙ ap (inputs_on (input_rows inputs))
      (inputs_append (load_rows p.window (codes "Z") (moved_zero p (zero_point p history)) ++ load_rows p.window (codes "T") (tare_load (zero_point p history) (active_tare p history))) (map Counts (window_of p history)) 0
      ∙ sample_inputs (window_of p history) (inputs_on (load_rows p.window (codes "Z") (moved_zero p (zero_point p history)) ++ load_rows p.window (codes "T") (tare_load (zero_point p history) (active_tare p history))) 0)
      ∙ inputs_append (load_rows p.window (codes "Z") (moved_zero p (zero_point p history))) (load_rows p.window (codes "T") (tare_load (zero_point p history) (active_tare p history))) 0
      ∙ tare_inputs p (zero_point p history) (active_tare p history) (inputs_on (load_rows p.window (codes "Z") (moved_zero p (zero_point p history))) 0)
      ∙ zero_inputs p (zero_point p history) 0)
      ∙ set_inputs inputs

  -- so it is alike
  alike_there : AreAlike p some history bytes inputs
      (history_on (inputs_part ++ request_part) [] []) (bytes_on (inputs_part ++ request_part) []) (inputs_on (inputs_part ++ request_part) 0)
  alike_there =
      let reports : (same_zero ≡ true → zero_point p history ≡ p.zero_counts) × (zero_point p history ≡ p.zero_counts → same_zero ≡ true) =
      signed_Decides (zero_point p history) p.zero_counts in
      record {
        states = subst (HaveSameState p history) (sym history_there) (state_brought p some history same_zero reports.0 reports.1);
        lines = request_there;
        same_inputs = input_there;
      }

-- rows that bring a prelude
pub pasts_brought : (p : PlateData) (some : 0 < p.window) (past : Past) (opening : List LogRow) → brought_by opening ≡ prelude_of p.window (scale_state p past) →
    ArePastsAlike p some past (past_after [] opening)
pasts_brought p some past opening e =
    let alike : AreAlike p some (history_of past) (line_bytes past) (inputs_of past)
    (history_on (brought_by opening) [] []) (bytes_on (brought_by opening) []) (inputs_on (brought_by opening) 0) =
    subst (λ b. AreAlike p some (history_of past) (line_bytes past) (inputs_of past) (history_on b [] []) (bytes_on b []) (inputs_on b 0)) (sym e)
    (alike_there p some (history_of past) (line_bytes past) (inputs_of past)) in
    record {
      states = subst (HaveSameState p (history_of past)) (sym (history_by [] opening)) alike.states;
      lines = ap kept (bytes_by [] opening) ∙ alike.lines;
      same_inputs = inputs_by [] opening ∙ alike.same_inputs;
    }

prelude_brings_back : (p : PlateData) → 0 < p.window → (past : Past) → BringsBack p past (prelude_of p.window (scale_state p past))
prelude_brings_back p some past opening rows others e timed_alike =
    goes_on p some past (past_after [] opening) rows others timed_alike (pasts_brought p some past opening e)

-- a prelude is short
load_length : (n : ℕ) (letter : List ℕ) (counts : ℤ) → length (at_load n letter counts) ≡ n + 1
load_length n letter counts =
    length-append (replicate n (Counts counts)) (Bytes (line_feed ∷ letter ++ (carriage_return ∷ [])) ∷ [])
    ∙ ap (λ m. m + 1) (length-replicate n (Counts counts))

load_rows_length : (n : ℕ) (letter : List ℕ) (load : Option ℤ) → length (load_rows n letter load) ≤ n + 1
load_rows_length n letter None = omega arith
load_rows_length n letter (Some counts) = omega (arith, load_length n letter counts)

input_length : (inputs : ℕ) → length (input_rows inputs) ≤ 1
input_length zero = omega arith
input_length (suc inputs) = omega arith

request_length : (o : Option (List ℕ)) → length (request_rows o) ≤ 1
request_length None = omega arith
request_length (Some text) = omega arith

few_rows : (p : PlateData) (past : Past) → length (prelude_of p.window (scale_state p past)) ≤ 3 * p.window + 4
few_rows p past =
    let zero_part : List RowData = load_rows p.window (codes "Z") (scale_state p past).zero in
    let tare_part : List RowData = load_rows p.window (codes "T") (scale_state p past).tare in
    let window : List ℤ = (scale_state p past).window in
    let inputs : List RowData = input_rows (scale_state p past).inputs in
    let request : List RowData = request_rows (scale_state p past).request in
    let samples_length : length window ≡ length (samples (history_of past)) - (length (samples (history_of past)) - p.window) =
    length-drop (length (samples (history_of past)) - p.window) (samples (history_of past)) in
    omega (
      arith,
      length-append (zero_part ++ tare_part ++ map Counts window ++ inputs) request,
      length-append (zero_part ++ tare_part ++ map Counts window) inputs,
      length-append (zero_part ++ tare_part) (map Counts window),
      length-append zero_part tare_part,
      length-map window Counts,
      samples_length,
      load_rows_length p.window (codes "Z") (scale_state p past).zero,
      load_rows_length p.window (codes "T") (scale_state p past).tare,
      input_length (scale_state p past).inputs,
      request_length (scale_state p past).request,
    )

-- a log can be cut
pub can_be_cut : (p : PlateData) → 0 < p.window → (past : Past) → CanBeCut p past
can_be_cut p some past = record { brings_back = prelude_brings_back p some past; few = few_rows p past }
