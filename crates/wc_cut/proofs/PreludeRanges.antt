-- What the rows of a prelude bring is in its range, if what the rows before the cut brought is.
use Rattle.std.proofs.Common.{◌≡◌, ℕ, zero, suc, ◌+◌, ◌-◌, ◌<◌, ◌≤◌, ◌^◌, ◌==◌, ◌&&◌, Bool, true, false, if◌then◌else◌, List, [], ◌∷◌, ◌++◌, length, drop, map, refl, ap, sym, subst, ◌∙◌, arith, lit<}
use Rattle.wc_model.proofs.Common.{ints, AllBelowBase, last_or, list_all, option_or, int_eq}
use Rattle.std.specs.Prelude.{codes, ℤ, ◌≤ℤ◌, ◌+ℤ◌, ◌-ℤ◌, IsSome, Option, Some, None, is_some, option_map, replicate, unwrap_or}
use Rattle.wc_laws_instrument.proofs.Indication.{tare_ended, tare_new, tare_same, tare_same_at_zero, zero_new, zero_same}
use Rattle.wc_laws_instrument.specs.Logs.{IsDataInRange}
use Rattle.wc_laws_instrument.specs.Preludes.{input_rows, load_rows, moved_zero, prelude_of, request_rows, scale_state, tare_load, text_kept}
use Rattle.wc_model.specs.Definitions.{AskTare, AskWeight, Clear, Command, TakeTare, Unknown, Zero, after_command, after_requests, command_of, active_tare, from_zero, present_counts, tare_refusal, window_of, zero_point, zero_refusal, PlateData, IsPlate, greatest_sample, least_sample, carriage_return, is_text, line_feed, open_at, open_request, requests_in, ClearTare, History, Sample, SetTare, SetZero, last_sample, samples, RowData, Counts, Bytes, Inputs, Scan, Change, Past, history_of, history_with, line_bytes, line_bytes_in}
use Rattle.wc_model.specs.Run.ProcessImage.{inputs_of, inputs_with}

-- a sample in its range
abbrev pub IsSample : ℤ → Type 0
IsSample counts = (least_sample ≤ℤ counts) × (counts ≤ℤ greatest_sample)

-- rows so far, in their ranges
abbrev pub ArePastRows : Past → Type 0
ArePastRows [] = Unit {0}
ArePastRows (row ∷ past) = IsDataInRange row.brings × ArePastRows past

-- and what each brings
abbrev pub AreRanged : List RowData → Type 0
AreRanged [] = Unit {0}
AreRanged (row ∷ rows) = IsDataInRange row × AreRanged rows

ranged_join : (first second : List RowData) → AreRanged first → AreRanged second → AreRanged (first ++ second)
ranged_join [] second h k = k
ranged_join (row ∷ first) second h k = (h.0, ranged_join first second h.1 k)

-- the samples of a history
abbrev AreSamples : List ℤ → Type 0
AreSamples [] = Unit {0}
AreSamples (x ∷ xs) = IsSample x × AreSamples xs

abbrev IsSampled : History → Type 0
IsSampled [] = Unit {0}
IsSampled (Sample counts ∷ before) = IsSample counts × IsSampled before
IsSampled (SetZero ∷ before) = IsSampled before
IsSampled (SetTare ∷ before) = IsSampled before
IsSampled (ClearTare ∷ before) = IsSampled before

one_more : (xs : List ℤ) (x : ℤ) → AreSamples xs → IsSample x → AreSamples (xs ++ (x ∷ []))
one_more [] x h k = (k, tt)
one_more (y ∷ xs) x h k = (h.0, one_more xs x h.1 k)

samples_are : (history : History) → IsSampled history → AreSamples (samples history)
samples_are [] h = tt
samples_are (Sample counts ∷ before) h = one_more (samples before) counts (samples_are before h.1) h.0
samples_are (SetZero ∷ before) h = samples_are before h
samples_are (SetTare ∷ before) h = samples_are before h
samples_are (ClearTare ∷ before) h = samples_are before h

left_over : (n : ℕ) (xs : List ℤ) → AreSamples xs → AreSamples (drop n xs)
left_over zero xs h = h
left_over (suc n) [] h = tt
left_over (suc n) (x ∷ xs) h = left_over n xs h.1

-- the last one
abbrev IfSample : Option ℤ → Type 0
IfSample None = Unit {0}
IfSample (Some counts) = IsSample counts

last_is : (known : Option ℤ) (xs : List ℤ) → IfSample known → AreSamples xs → IfSample (last_or known xs)
last_is known [] h k = h
last_is known (x ∷ xs) h k = last_is (Some x) xs k.0 k.1

or_else : (known : Option ℤ) (other : ℤ) → IfSample known → IsSample other → IsSample (unwrap_or known other)
or_else None other h k = k
or_else (Some counts) other h k = h

-- a command
commanded : (command : Command) (history : History) → IsSampled history → IsSampled (after_command command history)
commanded AskWeight history h = h
commanded Zero history h = h
commanded TakeTare history h = h
commanded AskTare history h = h
commanded Clear history h = h
commanded Unknown history h = h

requested : (texts : List (List ℕ)) (history : History) → IsSampled history → IsSampled (after_requests texts history)
requested [] history h = h
requested (text ∷ texts) history h = requested texts (after_command (command_of text) history) (commanded (command_of text) history h)

-- the history of rows
history_with_is : (brings : RowData) (bytes : List ℕ) (history : History) → IsDataInRange brings → IsSampled history → IsSampled (history_with brings bytes history)
history_with_is (Counts counts) bytes history r h = (r, h)
history_with_is (Bytes chunk) bytes history r h = requested (requests_in bytes chunk) history h
history_with_is (Inputs inputs) bytes history r h = h
history_with_is Scan bytes history r h = h
history_with_is Change bytes history r h = h

history_is : (past : Past) → ArePastRows past → IsSampled (history_of past)
history_is [] h = tt
history_is (row ∷ past) h = history_with_is row.brings (line_bytes past) (history_of past) h.0 (history_is past h.1)

-- the inputs of rows
inputs_with_are : (brings : RowData) (inputs : ℕ) → IsDataInRange brings → inputs < 2 ^ 16 → inputs_with brings inputs < 2 ^ 16
inputs_with_are (Counts counts) inputs r h = h
inputs_with_are (Bytes chunk) inputs r h = h
inputs_with_are (Inputs new) inputs r h = r
inputs_with_are Scan inputs r h = h
inputs_with_are Change inputs r h = h

inputs_are : (past : Past) → ArePastRows past → inputs_of past < 2 ^ 16
inputs_are [] h = lit< tt
inputs_are (row ∷ past) h = inputs_with_are row.brings (inputs_of past) h.0 (inputs_are past h.1)

-- their bytes
bytes_join : (first second : List ℕ) → AllBelowBase 256 first → AllBelowBase 256 second → AllBelowBase 256 (first ++ second)
bytes_join [] second h k = k
bytes_join (byte ∷ first) second h k = (h.0, bytes_join first second h.1 k)

bytes_in_are : (brings : RowData) → IsDataInRange brings → AllBelowBase 256 (line_bytes_in brings)
bytes_in_are (Counts counts) r = tt
bytes_in_are (Bytes chunk) r = r.1
bytes_in_are (Inputs inputs) r = tt
bytes_in_are Scan r = tt
bytes_in_are Change r = tt

bytes_are : (past : Past) → ArePastRows past → AllBelowBase 256 (line_bytes past)
bytes_are [] h = tt
bytes_are (row ∷ past) h = bytes_join (line_bytes past) (line_bytes_in row.brings) (bytes_are past h.1) (bytes_in_are row.brings h.0)

-- the open request's text
abbrev IfText : Option (List ℕ) → Type 0
IfText None = Unit {0}
IfText (Some text) = AllBelowBase 256 text

open_is : (b : Bool) (rest : List ℕ) → AllBelowBase 256 rest → IfText (if b then Some rest else None)
open_is true rest h = h
open_is false rest h = tt

or_open : (known other : Option (List ℕ)) → IfText known → IfText other → IfText (option_or known other)
or_open None other h k = k
or_open (Some text) other h k = h

request_is : (bytes : List ℕ) → AllBelowBase 256 bytes → IfText (open_request bytes)
request_is [] h = tt
request_is (byte ∷ rest) h = or_open (open_request rest) (open_at byte rest) (request_is rest h.1) (open_is (byte == line_feed && list_all is_text rest) rest h.1)

kept_is : (text : List ℕ) → AllBelowBase 256 text → AllBelowBase 256 (text_kept text) × (length (text_kept text) ≤ 2)
kept_is [] h = (tt, omega arith)
kept_is (byte ∷ []) h = (h, omega arith)
kept_is (first ∷ second ∷ rest) h = ((lit< tt, (lit< tt, tt)), omega arith)

request_ranged : (known : Option (List ℕ)) → IfText known → AreRanged (request_rows (option_map text_kept known))
request_ranged None h = tt
request_ranged (Some text) h =
    let kept = kept_is text h in
    ((omega (arith, kept.1), (lit< tt, kept.0)), tt)

inputs_ranged : (inputs : ℕ) → inputs < 2 ^ 16 → AreRanged (input_rows inputs)
inputs_ranged zero h = tt
inputs_ranged (suc inputs) h = (h, tt)

samples_ranged : (xs : List ℤ) → AreSamples xs → AreRanged (map Counts xs)
samples_ranged [] h = tt
samples_ranged (x ∷ xs) h = (h.0, samples_ranged xs h.1)

same_ranged : (n : ℕ) (counts : ℤ) → IsSample counts → AreRanged (replicate n (Counts counts))
same_ranged zero counts h = tt
same_ranged (suc n) counts h = (h, same_ranged n counts h)

-- a load and its request
load_ranged : (n letter : ℕ) (load : Option ℤ) → letter < 256 → IfSample load → AreRanged (load_rows n (letter ∷ []) load)
load_ranged n letter None small h = tt
load_ranged n letter (Some counts) small h =
    ranged_join (replicate n (Counts counts)) (Bytes (line_feed ∷ letter ∷ carriage_return ∷ []) ∷ []) (same_ranged n counts h)
    ((omega arith, (lit< tt, (small, (lit< tt, tt)))), tt)

module _ (p : PlateData) (plate : IsPlate p) where
  present_is : (history : History) → IsSampled history → IsSample (present_counts p history)
  present_is history h = or_else (last_sample history) p.zero_counts (last_is None (samples history) tt (samples_are history h)) plate.zero_in_range

  zero_is : (history : History) → IsSampled history → IsSample (zero_point p history)
  zero_is [] h = plate.zero_in_range
  zero_is (Sample counts ∷ before) h = zero_is before h.1
  zero_is (SetTare ∷ before) h = zero_is before h
  zero_is (ClearTare ∷ before) h = zero_is before h
  zero_is (SetZero ∷ before) h = by (zero_refusal p before) refl (zero_is before h) where
    by : (refusal : Option _) → zero_refusal p before ≡ refusal → IsSample (zero_point p before) → IsSample (zero_point p (SetZero ∷ before))
    by None e same = subst IsSample (sym (zero_new p before e)) (present_is before h)
    by (Some why) e same = subst IsSample (sym (zero_same p before (ap is_some e))) same

  moved_is : (same : Bool) (point : ℤ) → IsSample point → IfSample (if same then None else Some point)
  moved_is true point h = tt
  moved_is false point h = h

  tare_is : (history : History) (tare : ℤ) → IsSampled history → active_tare p history ≡ Some tare → IsSample (zero_point p history +ℤ tare)
  tare_is [] tare h e = absurd (cc)
  tare_is (Sample counts ∷ before) tare h e = tare_is before tare h.1 e
  tare_is (ClearTare ∷ before) tare h e = absurd (cc)
  tare_is (SetZero ∷ before) tare h e = by (zero_refusal p before) refl (λ f. tare_is before tare h f) where
    by : (refusal : Option _) → zero_refusal p before ≡ refusal → (active_tare p before ≡ Some tare → IsSample (zero_point p before +ℤ tare)) → IsSample (zero_point p (SetZero ∷ before) +ℤ tare)
    by None f same = let none : active_tare p (SetZero ∷ before) ≡ None = tare_ended p before f in absurd (cc)
    by (Some why) f same =
        let refused : IsSome (zero_refusal p before) = ap is_some f in
        subst (λ point. IsSample (point +ℤ tare)) (sym (zero_same p before refused)) (same (sym (tare_same_at_zero p before refused) ∙ e))
  tare_is (SetTare ∷ before) tare h e = by (tare_refusal p before) refl (λ f. tare_is before tare h f) where
    by : (refusal : Option _) → tare_refusal p before ≡ refusal → (active_tare p before ≡ Some tare → IsSample (zero_point p before +ℤ tare)) → IsSample (zero_point p (SetTare ∷ before) +ℤ tare)
    by None f same =
        let some : Some (from_zero p before) ≡ Some tare = sym (tare_new p before f) ∙ e in
        let taken : from_zero p before ≡ tare = cc in
        let load : zero_point p before +ℤ (present_counts p before -ℤ zero_point p before) ≡ present_counts p before = omega (arith, ints) in
        subst (λ counts. IsSample (zero_point p before +ℤ counts)) taken (subst IsSample (sym load) (present_is before h))
    by (Some why) f same = same (sym (tare_same p before (ap is_some f)) ∙ e)

  tare_load_is : (history : History) → IsSampled history → IfSample (tare_load (zero_point p history) (active_tare p history))
  tare_load_is history h = by (active_tare p history) refl where
    by : (known : Option ℤ) → active_tare p history ≡ known → IfSample (tare_load (zero_point p history) known)
    by None e = tt
    by (Some tare) e = tare_is history tare h e

  -- so is all that a prelude brings
  pub prelude_ranged : (past : Past) → ArePastRows past → AreRanged (prelude_of p.window (scale_state p past))
  prelude_ranged past h =
      let history : History = history_of past in
      let sampled = history_is past h in
      let zeros : List RowData = load_rows p.window (codes "Z") (moved_zero p (zero_point p history)) in
      let tares : List RowData = load_rows p.window (codes "T") (tare_load (zero_point p history) (active_tare p history)) in
      let window : List RowData = map Counts (window_of p history) in
      let inputs : List RowData = input_rows (inputs_of past) in
      ranged_join (zeros ++ tares ++ window ++ inputs) (request_rows (option_map text_kept (open_request (line_bytes past))))
      (ranged_join (zeros ++ tares ++ window) inputs
      (ranged_join (zeros ++ tares) window
      (ranged_join zeros tares
      (load_ranged p.window 90 (moved_zero p (zero_point p history)) (lit< tt) (moved_is (int_eq (zero_point p history) p.zero_counts) (zero_point p history) (zero_is history sampled)))
      (load_ranged p.window 84 (tare_load (zero_point p history) (active_tare p history)) (lit< tt) (tare_load_is history sampled)))
      (samples_ranged (window_of p history) (left_over (length (samples history) - p.window) (samples history) (samples_are history sampled))))
      (inputs_ranged (inputs_of past) (inputs_are past h)))
      (request_ranged (open_request (line_bytes past)) (request_is (line_bytes past) (bytes_are past h)))
