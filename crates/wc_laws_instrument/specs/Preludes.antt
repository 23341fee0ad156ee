-- A log that is cut: a few rows, the prelude, bring a new scale to the state that the rows before the cut have left. (The
-- profile's own.)
use Rattle.std.specs.Ordering.{int_eq}
use Rattle.std.specs.Prelude.{◌≡◌, ℕ, zero, suc, ◌+◌, ◌*◌, ◌≤◌, List, [], ◌∷◌, ◌++◌, length, map, replicate, codes, ℤ, ◌+ℤ◌, Option, Some, None, option_map, if◌then◌else◌}
use Rattle.wc_laws_instrument.specs.Changes.{lines_from}
use Rattle.wc_model.specs.Instrument.Answers.{RequestOutcome, Mode, answer}
use Rattle.wc_model.specs.Definitions.{active_tare, gross, has_sample, is_centre_of_zero, is_over, is_stable, is_tare_active, is_under, is_valid, net, shown, tare_refusal, tare_value, window_of, zero_point, zero_refusal, PlateData, carriage_return, line_feed, open_request, History, Bytes, Counts, Inputs, LogRow, Past, RowData, answers_after, history_of, line_bytes, Program, answer_lines, report_lines, state_after}
use Rattle.wc_model.specs.Run.ProcessImage.{image_after, inputs_of}

-- All that the answers and images to come depend on: the load at which zero was set, unless it is the calibrated zero, the load
-- at which the tare was taken, if one is active, the last samples, the open request's text as far as it matters, and the inputs.
-- Loads are samples.
pub record ScaleState : Type 0 where
  pub zero : Option ℤ
  pub tare : Option ℤ
  pub window : List ℤ
  pub request : Option (List ℕ)
  pub inputs : ℕ

-- a zero point, unless it is the calibrated zero
abbrev pub moved_zero : PlateData → ℤ → Option ℤ
moved_zero p point = if int_eq point p.zero_counts then None else Some point

-- the load at which a tare was taken
abbrev pub tare_load : ℤ → Option ℤ → Option ℤ
tare_load point tare = option_map (λ counts. point +ℤ counts) tare

-- a request's text as far as it matters: one of two bytes or more is not a command, whatever it goes on with, and is two
-- question marks
abbrev pub text_kept : List ℕ → List ℕ
text_kept [] = []
text_kept (byte ∷ []) = byte ∷ []
text_kept (first ∷ second ∷ rest) = codes "??"

-- the state that an indicator's history, the line's bytes and the inputs come to
abbrev pub state_of : PlateData → History → List ℕ → ℕ → ScaleState
state_of p history bytes inputs = record {
  zero = moved_zero p (zero_point p history);
  tare = tare_load (zero_point p history) (active_tare p history);
  window = window_of p history;
  request = option_map text_kept (open_request bytes);
  inputs = inputs;
}

-- the state after the rows so far
abbrev pub scale_state : PlateData → Past → ScaleState
scale_state p past = state_of p (history_of past) (line_bytes past) (inputs_of past)

-- as many samples of one load as the window holds, and then a request of one letter
abbrev pub at_load : ℕ → List ℕ → ℤ → List RowData
at_load window letter counts =
    replicate window (Counts counts) ++ (Bytes (line_feed ∷ letter ++ (carriage_return ∷ [])) ∷ [])

-- if there is such a load
abbrev pub load_rows : ℕ → List ℕ → Option ℤ → List RowData
load_rows window letter None = []
load_rows window letter (Some counts) = at_load window letter counts

-- the inputs, unless they are those of a new scale
abbrev pub input_rows : ℕ → List RowData
input_rows zero = []
input_rows (suc inputs) = Inputs (suc inputs) ∷ []

-- the bytes of the request that is open, if one is
abbrev pub request_rows : Option (List ℕ) → List RowData
request_rows None = []
request_rows (Some text) = Bytes (line_feed ∷ text) ∷ []

-- what the rows of a prelude bring, if the window holds n samples: zero, tare, the last samples, the inputs and the
-- open request
abbrev pub prelude_of : ℕ → ScaleState → List RowData
prelude_of window state =
    load_rows window (codes "Z") state.zero ++ load_rows window (codes "T") state.tare ++ map Counts state.window
    ++ input_rows state.inputs ++ request_rows state.request

-- the rows so far, and these after them
abbrev pub past_after : Past → List LogRow → Past
past_after past [] = past
past_after past (row ∷ rows) = past_after (row ∷ past) rows

-- what rows bring
abbrev pub brought_by : List LogRow → List RowData
brought_by rows = map (λ row. row.brings) rows

-- the time of each row and what it brings: rows that differ in their numbers alone are alike
abbrev pub timed : List LogRow → List (ℕ × RowData)
timed rows = map (λ row. (row.ms, row.brings)) rows

-- two histories of one plate have the same readings
pub record HaveSameReadings (p : PlateData) (history other : History) : Type 0 where
  pub zero_point : zero_point p other ≡ zero_point p history
  pub active_tare : active_tare p other ≡ active_tare p history
  pub window : window_of p other ≡ window_of p history
  pub has_sample : has_sample other ≡ has_sample history
  pub is_stable : is_stable p other ≡ is_stable p history
  pub is_over : is_over p other ≡ is_over p history
  pub is_under : is_under p other ≡ is_under p history
  pub is_valid : is_valid p other ≡ is_valid p history
  pub is_centre_of_zero : is_centre_of_zero p other ≡ is_centre_of_zero p history
  pub is_tare_active : is_tare_active p other ≡ is_tare_active p history
  pub zero_refusal : zero_refusal p other ≡ zero_refusal p history
  pub tare_refusal : tare_refusal p other ≡ tare_refusal p history
  pub gross : gross p other ≡ gross p history
  pub net : net p other ≡ net p history
  pub shown : shown p other ≡ shown p history
  pub tare_value : tare_value p other ≡ tare_value p history
  pub answer : (mode : Mode) (asked : RequestOutcome) → answer p other mode asked ≡ answer p history mode asked

-- After `second` the rows `others` come to what the rows `rows` come to after `first`.
--     answers    the line's answer to each row
--     lines      the lines with these answers and their times
--     readings   each reading of the indication after the rows
--     image      and what a scan sees then
pub record GoesOnAlike (p : PlateData) (first second : Past) (rows others : List LogRow) : Type 0 where
  pub answers : answers_after p second others ≡ answers_after p first rows
  pub lines : answer_lines p second others ≡ answer_lines p first rows
  pub readings : HaveSameReadings p (history_of (past_after first rows)) (history_of (past_after second others))
  pub image : image_after p (past_after second others) ≡ image_after p (past_after first rows)

-- Rows that bring this, to a scale to which nothing has come, can be put in the place of the rows so far: whatever rows follow.
abbrev pub BringsBack : PlateData → Past → List RowData → Type 0
BringsBack p past prelude =
    (opening rows others : List LogRow) → brought_by opening ≡ prelude → timed others ≡ timed rows →
    GoesOnAlike p past (past_after [] opening) rows others

-- The prelude of the state that any rows have left brings it back, and is short.
pub record CanBeCut (p : PlateData) (past : Past) : Type 0 where
  pub brings_back : BringsBack p past (prelude_of p.window (scale_state p past))
  pub few : length (prelude_of p.window (scale_state p past)) ≤ 3 * p.window + 4

-- The report of a cut log, with a program in whatever state.
--     begins     after the prelude it has the lines that the rows have with a program that begins again there
--     whole      those of the whole log are the same, with the program as the rows so far have left it
pub record ReportsCanBeCut {State : Type 0} (p : PlateData) (program : Program State) (past : Past) : Type 0 where
  pub begins : (start : State) (opening rows others : List LogRow) → brought_by opening ≡ prelude_of p.window (scale_state p past) → timed others ≡ timed rows →
      report_lines p program start (past_after [] opening) others ≡ lines_from p program start past rows
  pub whole : (start : State) (rows : List LogRow) →
      report_lines p program start past rows ≡ lines_from p program (state_after p program start past) past rows
