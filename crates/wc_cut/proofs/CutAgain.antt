-- A log that is cut is the text of its prelude and of the rows after the cut, which go on as they do in the whole log; a cut of it is a
-- cut of the whole log.
use Rattle.wc_model.proofs.Common.{◌≡◌, ℕ, ◌<◌, List, [], ◌∷◌, ◌++◌, drop, take, map, refl, ap, sym, ◌∙◌, append_assoc, zero, suc, ◌+◌, length, arith, drop-append-add, take-append-add, take-add}
use Rattle.wc_cut.specs.{heading_text, line_of, lines_of, row_text, rows_text, time_of, opening_text, GoesOnFromTheCut, prelude_rows, row_at_time, IsCutAgain, opening_rows}
use Rattle.wc_laws_instrument.proofs.CutLogs.{can_be_cut, pasts_brought}
use Rattle.wc_laws_instrument.specs.Preludes.{brought_by, past_after, prelude_of, scale_state, moved_zero, tare_load}
use Rattle.wc_model.specs.Definitions.{PlateData, LogRow, Past, RowData}
use Rattle.wc_laws_instrument.proofs.SameLines.{ArePastsAlike, pasts_alike}

-- the rows of one time
at_one_time : (ms : ℕ) (rows : List RowData) → lines_of ms rows ≡ rows_text (map (row_at_time ms) rows)
at_one_time ms [] = refl
at_one_time ms (row ∷ rows) = ap (λ text. line_of ms row ++ text) (at_one_time ms rows)

-- what they bring
pub brought_back : (ms : ℕ) (rows : List RowData) → brought_by (map (row_at_time ms) rows) ≡ rows
brought_back ms [] = refl
brought_back ms (row ∷ rows) = ap (λ r. row ∷ r) (brought_back ms rows)

-- rows after rows
text_append : (first second : List LogRow) → rows_text (first ++ second) ≡ rows_text first ++ rows_text second
text_append [] second = refl
text_append (row ∷ first) second =
    ap (λ text. row_text row ++ text) (text_append first second) ∙ sym (append_assoc (row_text row) (rows_text first) (rows_text second))

pub goes_on_from_the_cut : (plate : PlateData) → 0 < plate.window → (count : ℕ) (rows : List LogRow) → GoesOnFromTheCut plate count rows
goes_on_from_the_cut plate some count rows =
    let past : Past = past_after [] (take count rows) in
    let prelude : List RowData = prelude_of plate.window (scale_state plate past) in
    record {
      text = append_assoc heading_text (lines_of (time_of past) prelude) (rows_text (drop count rows))
          ∙ ap (λ text. heading_text ++ (text ++ rows_text (drop count rows))) (at_one_time (time_of past) prelude)
          ∙ ap (λ text. heading_text ++ text) (sym (text_append (prelude_rows plate past) (drop count rows)));
      alike = (can_be_cut plate some past).brings_back (prelude_rows plate past) (drop count rows) (drop count rows)
          (brought_back (time_of past) prelude) refl;
    }

-- rows that are left out in two steps
drop_none : (n : ℕ) → drop {A = LogRow} n [] ≡ []
drop_none zero = refl
drop_none (suc n) = refl

drop_twice : (n m : ℕ) (rows : List LogRow) → drop m (drop n rows) ≡ drop (n + m) rows
drop_twice zero m rows =
    let same : m ≡ 0 + m = omega arith in
    ap (λ k. drop k rows) same
drop_twice (suc n) m [] = drop_none m ∙ sym (drop_none (suc n + m))
drop_twice (suc n) m (row ∷ rows) =
    let same : suc (n + m) ≡ suc n + m = omega arith in
    drop_twice n m rows ∙ ap (λ k. drop k (row ∷ rows)) same

-- rows that come after rows
after_both : (past : Past) (first second : List LogRow) → past_after past (first ++ second) ≡ past_after (past_after past first) second
after_both past [] second = refl
after_both past (row ∷ first) second = after_both (row ∷ past) first second

-- scales that are alike have one state
one_state : (p : PlateData) (some : 0 < p.window) (past past' : Past) → ArePastsAlike p some past past' → scale_state p past' ≡ scale_state p past
one_state p some past past' alike = λ i. record {
  zero = moved_zero p (alike.states.zero i);
  tare = tare_load (alike.states.zero i) (alike.states.tare i);
  window = alike.states.window i;
  request = alike.lines i;
  inputs = alike.same_inputs i;
}

-- the time of the last row is that of the last of those that come, if any do
last_time : (past other : Past) (row : LogRow) (rows : List LogRow) → time_of (past_after past (row ∷ rows)) ≡ time_of (past_after other (row ∷ rows))
last_time past other row [] = refl
last_time past other row (next ∷ rows) = last_time (row ∷ past) (row ∷ other) next rows

-- and of rows at one time it is that
one_time : (past : Past) (ms : ℕ) (row : RowData) (rows : List RowData) → time_of (past_after past (map (row_at_time ms) (row ∷ rows))) ≡ ms
one_time past ms row [] = refl
one_time past ms row (next ∷ rows) = one_time (row_at_time ms row ∷ past) ms next rows

-- a prelude's lines, at the time of its own rows
own_time : (ms : ℕ) (rows : List RowData) → lines_of (time_of (past_after [] (map (row_at_time ms) rows))) rows ≡ lines_of ms rows
own_time ms [] = refl
own_time ms (row ∷ rows) = ap (λ t. lines_of t (row ∷ rows)) (one_time [] ms row rows)

module _ (plate : PlateData) (some : 0 < plate.window) (past : Past) where
  abbrev prelude : List RowData
  prelude = prelude_of plate.window (scale_state plate past)

  abbrev opened : Past
  opened = past_after [] (prelude_rows plate past)

  alike : ArePastsAlike plate some past opened
  alike = pasts_brought plate some past (prelude_rows plate past) (brought_back (time_of past) prelude)

  state_on : (rows : List LogRow) → scale_state plate (past_after opened rows) ≡ scale_state plate (past_after past rows)
  state_on rows = one_state plate some (past_after past rows) (past_after opened rows) (pasts_alike plate some past opened rows rows refl alike)

  -- the opening after further rows
  opening_on : (rows : List LogRow) → opening_text plate (past_after opened rows) ≡ opening_text plate (past_after past rows)
  opening_on [] =
      (λ i. heading_text ++ lines_of (time_of opened) (prelude_of plate.window (state_on [] i)))
      ∙ ap (λ text. heading_text ++ text) (own_time (time_of past) prelude)
  opening_on (row ∷ rows) = λ i. heading_text ++ lines_of (last_time opened past row rows i) (prelude_of plate.window (state_on (row ∷ rows) i))

pub cut_again : (plate : PlateData) → 0 < plate.window → (count more : ℕ) (rows : List LogRow) → IsCutAgain plate count more rows
cut_again plate some count more rows =
    let past : Past = past_after [] (take count rows) in
    let opening : List LogRow = opening_rows plate count rows in
    let rest : List LogRow = drop count rows in
    let before : past_after [] (take (length opening + more) (opening ++ rest)) ≡ past_after (past_after [] opening) (take more rest) =
    ap (past_after []) (take-append-add opening rest more) ∙ after_both [] opening (take more rest) in
    let whole : past_after past (take more rest) ≡ past_after [] (take (count + more) rows) =
    sym (after_both [] (take count rows) (take more rest)) ∙ ap (past_after []) (sym (take-add count more rows)) in
    let left : drop (length opening + more) (opening ++ rest) ≡ drop (count + more) rows =
    drop-append-add opening rest more ∙ drop_twice count more rows in
    (λ i. opening_text plate (before i) ++ rows_text (left i))
    ∙ ap (λ text. text ++ rows_text (drop (count + more) rows)) (opening_on plate some past (take more rest) ∙ ap (opening_text plate) whole)
